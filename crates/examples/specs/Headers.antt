-- Cases of the header's rules, whatever follows in the file.
use Rattle.std.specs.Prelude.{◌≡◌, ℕ, ◌≤◌, List, ◌∷◌, ◌++◌, length, codes}
use Rattle.std.specs.List.{AllByRecursion}
use Rattle.shelf.specs.declared.refusal.Reason.TheVariants.{NotCphd, LineMalformed}
use Rattle.header.specs.Lines.{file_type}
use Rattle.header.specs.Keys.{Numeral}
use Rattle.header.specs.Rows.{Refused}

-- a file of version 1.0.1 is refused 10
abbrev pub OtherVersion : Type 0
OtherVersion = (rest : List ℕ) → Refused (codes "CPHD/1.0.1" ++ 10 ∷ rest) (record { reason = NotCphd; place = 0 })

-- a first line without blanks round ":=" is refused 11 with its place
abbrev pub NoBlanks : Type 0
NoBlanks = (rest : List ℕ) → Refused (file_type ++ (codes "PVP_BLOCK_SIZE:=432" ++ 10 ∷ rest)) (record { reason = LineMalformed; place = 11 })

-- 18 digits, the bytes 30 to 39, are a number, and 19 are none
abbrev pub DigitLimit : Type 0
DigitLimit = (text : List ℕ) → AllByRecursion (λ b. (48 ≤ b) × (b ≤ 57)) text → (length text ≡ 18 → Numeral text) × (length text ≡ 19 → Numeral text → ⊥)
