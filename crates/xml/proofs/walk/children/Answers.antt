use Rattle.xml.proofs.ChildWalks.{walk_children}
use Rattle.xml.proofs.walk.children.Goals as goal

pub returns-clause-walk : goal.returns-clause-walk
returns-clause-walk c k h es d = walk_children es _ k h d
