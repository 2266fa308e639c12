use Rattle.std.proofs.Common.{arith}
use Rattle.std.proofs.lemmas.Grind.{common_steps}
use Rattle.xml.proofs.Walks.{text_law}
use Rattle.xml.proofs.walk.plain_text.Goals as goal

pub returns-clause-walk : goal.returns-clause-walk
returns-clause-walk c = text_law c.args.content.now _ (grind (arith, common_steps))
