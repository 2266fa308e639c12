use Rattle.std.proofs.Common.{rules}
use Rattle.xml.proofs.Walks.{walk_law, no_skip, child_answer, child_forward}
use Rattle.xml.proofs.walk.first_child.Goals as goal

pub returns-in_err-skip-clause-answer : goal.returns-in_err-skip-clause-answer
returns-in_err-skip-clause-answer c = no_skip _ _ c.from_residual.ensures c.in_err-skip.ensures

pub returns-in_err-skip-clause-walk : goal.returns-in_err-skip-clause-walk
returns-in_err-skip-clause-walk c = walk_law _ _ (no_skip _ _ c.from_residual.ensures c.in_err-skip.ensures)

pub returns-clause-answer : goal.returns-clause-answer
returns-clause-answer c = child_answer _ _ _ c.in_ok-skip.ensures (search rules)

pub returns-clause-walk : goal.returns-clause-walk
returns-clause-walk c = walk_law _ _ (child_answer _ _ _ c.in_ok-skip.ensures (search rules))

pub returns-clause-forward : goal.returns-clause-forward
returns-clause-forward c = child_forward _ _ _ c.in_ok-skip.ensures.is (search rules)
