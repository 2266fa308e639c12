-- A file has at most one list of lines, or else one malformed line, and a key names one number.
use Rattle.std.proofs.Common.{◌≡◌, ℕ, zero, suc, ◌+◌, ◌<◌, ◌≤◌, List, [], ◌∷◌, length, drop, sym, refl, ap, ◌∙◌, subst, arith}
use Rattle.header.specs.declared.keys.Key.{Key}
use Rattle.header.specs.Lines.{Begins, LineIs, NoLine, HeaderLine, line_size, Follow, HeaderText, Malformed, Distinct, line_at, terminator, lines_start}
use Rattle.header.specs.Keys.{name, Present, HasNumber, amount}
use Rattle.header.proofs.Runs.{same_line, terminator_no_line}
use Rattle.header.proofs.Numbers.{one_value}

same_size : (l m : HeaderLine) → l.key ≡ m.key → l.value ≡ m.value → line_size m ≡ line_size l
same_size l m e f = cc

same_record : (l m : HeaderLine) (p : ℕ) → l.place ≡ p → m.place ≡ p → l.key ≡ m.key → l.value ≡ m.value → l ≡ m
same_record l m p a b e f = let c : l.place ≡ m.place = a ∙ sym b in λ i. record { place = c i; key = e i; value = f i }

-- lines from one place are the same, where no line stands behind the shorter list
same_lines : (bs : List ℕ) (p q q' : ℕ) (ls ms : List HeaderLine) → Follow bs p ls q → Follow bs p ms q' → (length ls < length ms → NoLine (drop q bs)) → (length ms < length ls → NoLine (drop q' bs)) → (ls ≡ ms) × (q ≡ q')
same_lines bs p q q' [] [] f g none none' = (refl, sym f ∙ g)
same_lines bs p q q' [] (m ∷ ms) f g none none' = absurd (none (omega arith) _ _ (subst (λ z. LineIs (drop z bs) m.key m.value) f g.1))
same_lines bs p q q' (l ∷ ls) [] f g none none' = absurd (none' (omega arith) _ _ (subst (λ z. LineIs (drop z bs) l.key l.value) g f.1))
same_lines bs p q q' (l ∷ ls) (m ∷ ms) f g none none' =
    let same = same_line (drop p bs) _ _ _ _ f.1 g.1 in
    let one : l ≡ m = same_record l m p f.0 g.0 same.0 same.1 in
    let next : Follow bs (p + line_size l) ms q' = subst (λ n. Follow bs (p + n) ms q') (same_size l m same.0 same.1) g.2 in
    let rest = same_lines bs (p + line_size l) q q' ls ms f.2 next (λ h. none (omega arith)) (λ h. none' (omega arith)) in
    (λ i. one i ∷ rest.0 i, rest.1)

pub text_same : (head : List ℕ) (ls ms : List HeaderLine) (at at' : ℕ) → HeaderText head ls at → HeaderText head ms at' → (ls ≡ ms) × (at ≡ at')
text_same head ls ms at at' l m = same_lines head lines_start at at' ls ms l.lines m.lines (λ h k v. terminator_no_line _ k v l.ends) (λ h k v. terminator_no_line _ k v m.ends)

pub malformed_text : (head : List ℕ) (ls : List HeaderLine) (at p : ℕ) → HeaderText head ls at → Malformed head p → ⊥
malformed_text head ls at p l b =
    let same = same_lines head lines_start at p ls b.before l.lines b.lines (λ h k v. terminator_no_line _ k v l.ends) (λ h. b.no_line (omega (arith, h, l.few))) in
    b.no_end (subst (λ z. Begins (drop z head) terminator) same.1 l.ends)

pub malformed_same : (head : List ℕ) (p q : ℕ) → Malformed head p → Malformed head q → p ≡ q
malformed_same head p q a b = (same_lines head lines_start p q a.before b.before a.lines b.lines (λ h. a.no_line (omega (arith, h, b.few))) (λ h. b.no_line (omega (arith, h, a.few)))).1

-- the places of the lines rise
place_from : (bs : List ℕ) (p q : ℕ) (ls : List HeaderLine) (j : ℕ) → Follow bs p ls q → j < length ls → p ≤ (line_at ls j).place
place_from bs p q [] j f lt = absurd (omega arith)
place_from bs p q (l ∷ ls) zero f lt = omega (arith, f.0)
place_from bs p q (l ∷ ls) (suc j) f lt = omega (arith, place_from bs (p + line_size l) q ls j f.2 (omega arith))

pub places_rise : (bs : List ℕ) (p q : ℕ) (ls : List HeaderLine) (i j : ℕ) → Follow bs p ls q → i ≤ j → j < length ls → (line_at ls i).place ≤ (line_at ls j).place
places_rise bs p q [] i j f le lt = absurd (omega arith)
places_rise bs p q (l ∷ ls) zero j f le lt = omega (arith, f.0, place_from bs p q (l ∷ ls) j f lt)
places_rise bs p q (l ∷ ls) (suc i) zero f le lt = absurd (omega arith)
places_rise bs p q (l ∷ ls) (suc i) (suc j) f le lt = places_rise bs (p + line_size l) q ls i j f.2 (omega arith) (omega arith)

-- a key names one number
pub number_same : (ls : List HeaderLine) (k : Key) (m n : ℕ) → Distinct ls → HasNumber ls k m → HasNumber ls k n → m ≡ n
number_same ls k m n d a b = a.is ∙ ap amount (one_value ls (name k) a.text b.text d a.holds b.holds) ∙ sym b.is

pub number_present : (ls : List HeaderLine) (k : Key) (n : ℕ) → HasNumber ls k n → Present ls k
number_present ls k n h a = a h.holds.line.i h.holds.line.line
