-- Bytes cut where a search for a byte of another class ends are the longest run of the class, and what follows.
use Rattle.std.proofs.Common.{◌≡◌, ℕ, zero, suc, ◌<◌, ◌≤◌, List, [], ◌∷◌, ◌++◌, length, take, drop, get_or, Option, Some, None, sym, ap, ◌∙◌, subst, arith, take-append-drop, get_or-drop, add-zero, length-drop}
use Rattle.std.specs.Prelude.{MatchOption, unwrap_or}
use Rattle.std.specs.List.{AllByRecursion, AllWithin, HoldsAt}
use Rattle.classes.specs.Runs.{LongestRun}

-- what holds of each of the first n elements
pub all_of_first : (P : ℕ → Type 0) (bs : List ℕ) (n : ℕ) → AllWithin P bs 0 n → n ≤ length bs → AllByRecursion P (take n bs)
all_of_first P bs zero h i = tt
all_of_first P [] (suc n) h i = absurd (omega (arith, i))
all_of_first P (b ∷ bs) (suc n) h i = (h 0 0 (omega arith) (omega arith), all_of_first P bs n (λ k d l u. h (suc k) d (omega arith) (omega (arith, u))) (omega (arith, i)))

-- the byte behind the first n is where what follows them begins
pub next_at : (bs : List ℕ) (n x : ℕ) (rest : List ℕ) → drop n bs ≡ x ∷ rest → get_or bs n x ≡ x
next_at bs n x rest e = ap (λ i. get_or bs i x) (sym (add-zero n)) ∙ sym (get_or-drop n bs 0 x) ∙ ap (λ l. get_or l 0 x) e

pub longest : (P : ℕ → Type 0) (bs front back : List ℕ) (r : Option ℕ) → front ≡ take (unwrap_or r (length bs)) bs → back ≡ drop (unwrap_or r (length bs)) bs
    → MatchOption r (AllWithin P bs 0 (length bs)) (λ i. (i < length bs) × HoldsAt (λ b. P b → ⊥) bs i × AllWithin P bs 0 i)
    → LongestRun P bs front back
longest P bs front back r f b cases = record {
  whole = sym (take-append-drop (unwrap_or r (length bs)) bs) ∙ sym (λ i. f i ++ b i);
  all = subst (AllByRecursion P) (sym f) (all r cases);
  stops = λ x rest e. stops r cases x rest (sym b ∙ e);
}
  where
    Cases : Option ℕ → Type 0
    Cases r = MatchOption r (AllWithin P bs 0 (length bs)) (λ i. (i < length bs) × HoldsAt (λ b. P b → ⊥) bs i × AllWithin P bs 0 i)

    all : (r : Option ℕ) → Cases r → AllByRecursion P (take (unwrap_or r (length bs)) bs)
    all None h = all_of_first P bs (length bs) h (omega arith)
    all (Some i) h = all_of_first P bs i h.2 (omega (arith, h.0))

    stops : (r : Option ℕ) → Cases r → (x : ℕ) (rest : List ℕ) → drop (unwrap_or r (length bs)) bs ≡ x ∷ rest → P x → ⊥
    stops None h x rest e p = omega (arith, length-drop (length bs) bs, ap length e)
    stops (Some i) h x rest e p = h.1 x (subst P (sym (next_at bs i x rest e)) p)
