use Rattle.std.proofs.Common.{arith}
use Rattle.shelf.specs.Meaning.{limit}
use Rattle.shelf.proofs.Joints.{joined_length}
use Rattle.shelf.proofs.joined.JoinedShelfSource.len.Goals as goal

pub returns-clause-value : goal.returns-clause-value
returns-clause-value g c = omega (arith, joined_length (g.A.Source.bytes c.args.self.now.first) (g.B.Source.bytes c.args.self.now.second) limit)
