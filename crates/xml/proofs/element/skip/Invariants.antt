use Rattle.std.proofs.Common.{length}
use Rattle.xml.specs.Forms.{SkipForm}
use Rattle.xml.proofs.Steps.{Same}
use Rattle.xml.proofs.element.skip.Given as goal

abbrev pub invariant-loop-left : goal.invariant-loop-left
invariant-loop-left l = Same SkipForm l.text SkipForm l.left

abbrev pub decreases-loop-left : goal.decreases-loop-left
decreases-loop-left l = length l.left
