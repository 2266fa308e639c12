-- Runs of one class of bytes.
use Rattle.std.specs.Prelude.{◌≡◌, ℕ, List, ◌∷◌, ◌++◌}
use Rattle.std.specs.List.{AllByRecursion}

-- bs is front and then back, front is all of P, and back does not begin with a byte of P
pub record LongestRun (P : ℕ → Type 0) (bs front back : List ℕ) : Type 0 where
  pub whole : bs ≡ front ++ back
  pub all : AllByRecursion P front
  pub stops : (x : ℕ) (rest : List ℕ) → back ≡ x ∷ rest → P x → ⊥
