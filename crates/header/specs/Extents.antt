-- Runs of the file's bytes.
use Rattle.std.specs.Prelude.{ℕ, ◌+◌, ◌^◌, ◌<◌, List, ◌++◌, codes, decimal}
use Rattle.header.specs.declared.extent.Extent.{Extent}

-- where it ends
abbrev pub ends : Extent → ℕ
ends x = x.place + x.size

-- place and size have at most 18 digits, so that their sum is no overflow
abbrev pub SmallExtent : Extent → Type 0
SmallExtent x = (x.place < 10 ^ 18) × (x.size < 10 ^ 18)

-- place and size, as they are printed
abbrev pub shown : Extent → List ℕ
shown x = decimal x.place ++ (codes " " ++ decimal x.size)
