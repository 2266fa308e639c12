use Rattle.std.proofs.Common.{length}
use Rattle.xml.specs.Forms.{TailForm}
use Rattle.xml.proofs.Steps.{Same}
use Rattle.xml.proofs.tag.tail.Given as goal

abbrev pub invariant-loop-space : goal.invariant-loop-space
invariant-loop-space l = Same TailForm l.text TailForm l.left

abbrev pub decreases-loop-space : goal.decreases-loop-space
decreases-loop-space l = length l.left
