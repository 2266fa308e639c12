-- The first bytes of a file, as they are read.
use Rattle.std.proofs.Common.{◌≡◌, ℕ, min, List, length, take, ap, ◌∙◌, arith}
use Rattle.std.proofs.lemmas.List.{take_min}
use Rattle.shelf.specs.Meaning.{Filled}
use Rattle.header.specs.Lines.{header_limit}

pub front_read : (file before after : List ℕ) (len n : ℕ) → len ≡ length file → n ≡ min len header_limit → length before ≡ n → Filled file 0 before after → after ≡ take header_limit file
front_read file before after len n l m e f =
    let least : length before ≡ min header_limit (length file) = omega arith in
    f.filled ∙ ap (λ k. take k file) least ∙ take_min header_limit file
