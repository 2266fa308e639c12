use Rattle.std.proofs.Common.{length}
use Rattle.xml.specs.Forms.{MiscForm}
use Rattle.xml.proofs.Steps.{Same}
use Rattle.xml.proofs.document.misc.Given as goal

abbrev pub invariant-loop-next : goal.invariant-loop-next
invariant-loop-next l = Same MiscForm l.text MiscForm l.left

abbrev pub decreases-loop-next : goal.decreases-loop-next
decreases-loop-next l = length l.left
