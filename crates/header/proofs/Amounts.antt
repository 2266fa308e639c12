-- What digits write.
use Rattle.std.proofs.Common.{◌≡◌, ℕ, ◌+◌, ◌-◌, ◌*◌, ◌^◌, ◌<◌, ◌≤◌, List, [], ◌∷◌, map, length, get_or, take, ap, ◌∙◌, subst, arith}
use native.Mathlib.Nat.{pow-le-pow_right}
use Rattle.std.specs.Int.Digits.{number_from_digits, AllBelowBase}
use Rattle.std.proofs.lemmas.Int.Digits.{number_more, number_lt}
use Rattle.std.proofs.lemmas.List.{take_all, get_or-map, length-map, length-take-le}
use Rattle.std.proofs.ByRecursion.{All-get_or, All-take}
use Rattle.header.specs.Bytes.{In, AllIn}
use Rattle.header.specs.Keys.{Numeral, amount}
use Rattle.header.specs.declared.text.Class.TheVariants.{Digit}

abbrev pub digits : List ℕ → List ℕ
digits text = map (λ b. b - 48) text

pub under : (text : List ℕ) → AllIn Digit text → AllBelowBase 10 (digits text)
under [] h = tt
under (b ∷ text) h = (omega (arith, h.0), under text h.1)

pub digit_at : (text : List ℕ) (i : ℕ) → AllIn Digit text → i < length text → In Digit (get_or text i 0)
digit_at text i h lt = All-get_or (In Digit) text i 0 lt h

pub amount_more : (text : List ℕ) (i : ℕ) → i < length text → number_from_digits 10 (take (i + 1) (digits text)) ≡ number_from_digits 10 (take i (digits text)) * 10 + (get_or text i 0 - 48)
amount_more text i lt =
    number_more 10 (digits text) i (omega (arith, length-map text (λ b. b - 48))) ∙ ap (λ d. number_from_digits 10 (take i (digits text)) * 10 + d) (get_or-map (λ b. b - 48) text i 0 0 lt)

-- the first i digits write a number below ten to the eighteenth
pub amount_small : (text : List ℕ) (i : ℕ) → Numeral text → i ≤ length text → number_from_digits 10 (take i (digits text)) < 10 ^ 18
amount_small text i h le =
    let long : length (take i (digits text)) ≡ i = length-take-le i (digits text) (omega (arith, length-map text (λ b. b - 48))) in
    let lt : number_from_digits 10 (take i (digits text)) < 10 ^ length (take i (digits text)) = number_lt 10 (take i (digits text)) (All-take (λ d. d < 10) i (digits text) (under text h.digits)) in
    let less : length (take i (digits text)) ≤ 18 = omega (arith, long, h.short) in
    let top : 10 ^ length (take i (digits text)) ≤ 10 ^ 18 = pow-le-pow_right {n = 10} (omega arith) less in
    omega (arith, lt, top)

pub amount_below : (text : List ℕ) → Numeral text → amount text < 10 ^ 18
amount_below text h =
    subst (λ ds. number_from_digits 10 ds < 10 ^ 18) (take_all (length text) (digits text) (omega (arith, length-map text (λ b. b - 48)))) (amount_small text (length text) h (omega arith))
