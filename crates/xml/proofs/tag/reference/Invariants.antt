use Rattle.std.proofs.Common.{take}
use Rattle.std.specs.List.{AllByRecursion}
use Rattle.xml.specs.Reads.{Literal, Missing}
use Rattle.xml.proofs.tag.reference.Given as goal

abbrev pub invariant-loop-written : goal.invariant-loop-written
invariant-loop-written l = AllByRecursion (λ w. Missing (Literal w.now) l.text) (take l.written-index l.written-items)
