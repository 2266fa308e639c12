use Rattle.std.proofs.Common.{◌+◌, ◌*◌, length}
use Rattle.xml.specs.Forms.{ContentForm}
use Rattle.xml.proofs.Steps.{Same}
use Rattle.xml.proofs.element.+content_element.Given as goal

abbrev pub decreases-content : goal.decreases-content
decreases-content l = 2 * l.depth + 1

abbrev pub decreases-element : goal.decreases-element
decreases-element l = 2 * l.depth

abbrev pub invariant-content-loop-next : goal.invariant-content-loop-next
invariant-content-loop-next l = Same (ContentForm l.depth) l.text (ContentForm l.depth) l.left

abbrev pub decreases-content-loop-next : goal.decreases-content-loop-next
decreases-content-loop-next l = length l.left
