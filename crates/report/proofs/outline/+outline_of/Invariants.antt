use Rattle.std.proofs.Common.{◌≤◌, length}
use Rattle.report.proofs.outline.+outline_of.Given as goal

abbrev pub decreases-outline_of : goal.decreases-outline_of
decreases-outline_of l = length l.content.now

-- what is left of the content
abbrev pub invariant-loop-child : goal.invariant-loop-child
invariant-loop-child l = length l.child-iterator.rest.now ≤ length l.content
