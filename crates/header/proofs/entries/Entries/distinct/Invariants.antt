use Rattle.std.proofs.Common.{ℕ, ◌<◌, map}
use Rattle.header.specs.Lines.{Repeats}
use Rattle.header.specs.Entries.{line_of}
use Rattle.header.proofs.entries.Entries.distinct.Given as goal

abbrev pub invariant-loop-j : goal.invariant-loop-j
invariant-loop-j l = (k : ℕ) → k < l.j → Repeats (map line_of l.entries) k → ⊥
