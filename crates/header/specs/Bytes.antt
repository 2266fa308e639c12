-- Classes of bytes.
use Rattle.std.specs.Prelude.{◌≡◌, ℕ, ◌≤◌, ◌⊎◌, List}
use Rattle.std.specs.List.{AllByRecursion}
use Rattle.header.specs.declared.text.Class.{Class}
use Rattle.header.specs.declared.text.Class.TheVariants.{Key, Value, Digit}

-- the byte b is of the class: a key's A-Z, 0-9 or underscore, a value's 20 to 7E, a digit 0-9
abbrev pub In : Class → ℕ → Type 0
In Key b = ((65 ≤ b) × (b ≤ 90)) ⊎ (((48 ≤ b) × (b ≤ 57)) ⊎ (b ≡ 95))
In Value b = (32 ≤ b) × (b ≤ 126)
In Digit b = (48 ≤ b) × (b ≤ 57)

-- every byte is of the class
abbrev pub AllIn : Class → List ℕ → Type 0
AllIn c bs = AllByRecursion (In c) bs
