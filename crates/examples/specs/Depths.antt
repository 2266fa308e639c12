-- Elements inside one another.
use Rattle.std.specs.Prelude.{ℕ, zero, suc, ◌+◌, ◌<◌, ◌≤◌, List, [], ◌++◌, codes}
use Rattle.xml.specs.Grammar.{IsDocument}

-- an empty element with n elements round it, all named a, and then rest
abbrev pub nested : ℕ → List ℕ → List ℕ
nested zero rest = codes "<a/>" ++ rest
nested (suc n) rest = codes "<a>" ++ nested n (codes "</a>" ++ rest)

-- n + 1 elements inside one another are a document up to the depth of 16, and none beyond it
abbrev pub DepthLimit : Type 0
DepthLimit = (n : ℕ) → (n + 1 ≤ 16 → IsDocument (nested n [])) × (16 < n + 1 → IsDocument (nested n []) → ⊥)
