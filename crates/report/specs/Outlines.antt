-- What an outline is written as.
use Rattle.std.specs.Prelude.{◌≡◌, ℕ, ◌+◌, ◌-◌, ◌^◌, min, cond, List, [], ◌++◌, string_bytes, codes, decimal, ◌==◌}
use Rattle.report.specs.declared.siblings.Siblings.{Siblings}

-- how many siblings there are, behind their line: nothing is said of one
abbrev pub count_text : ℕ → List ℕ
count_text n = cond (n == 1) [] (codes " x" ++ decimal n)

-- siblings with the same outline: their line, how many they are, and the lines below one; nothing where there are none
abbrev pub shown : Siblings → List ℕ
shown s = cond (s.count == 0) [] (string_bytes s.line ++ (count_text s.count ++ (codes "\n" ++ string_bytes s.below)))

-- the same line, and the same lines below
abbrev pub Like : Siblings → Siblings → Type 0
Like s t = (string_bytes s.line ≡ string_bytes t.line) × (string_bytes s.below ≡ string_bytes t.below)

-- one more element, behind siblings that it is like: it is counted, and nothing is written yet
pub record Counted (last after : Siblings) (before lines : List ℕ) : Type 0 where
  pub line : after.line ≡ last.line
  pub below : after.below ≡ last.below
  pub count : after.count ≡ min (last.count + 1) (2 ^ 64 - 1)
  pub same : lines ≡ before

-- one that it is not like: they are written, and it takes their place
pub record Written (last next after : Siblings) (before lines : List ℕ) : Type 0 where
  pub place : after ≡ next
  pub more : lines ≡ before ++ shown last

-- what becomes of the last siblings, and of the lines written before them, when one more element comes
abbrev pub Follows : (last next after : Siblings) (before lines : List ℕ) → Type 0
Follows last next after before lines = (Like last next → Counted last after before lines) × ((Like last next → ⊥) → Written last next after before lines)
