use Rattle.std.proofs.Common.{arith}
use Rattle.shelf.specs.Meaning.{limit}
use Rattle.shelf.proofs.Joints.{joined_reads}
use Rattle.shelf.proofs.joined.JoinedShelfSource.read.Goals as goal

pub returns : goal.returns
returns g c =
    let held = c.len.ensures.value in
    let joint = c.len-2.ensures.value in
    let cut = c.cut_at-from.ensures in
    let parts = c.split_at_mut-front.ensures in
    joined_reads (g.A.Source.bytes c.args.self.now.first) (g.B.Source.bytes c.args.self.now.second) c.args.buffer.now _ _ _ _
    limit c.args.place c.cut_at-from.result.near c.cut_at-from.result.from c.cut_at-from.result.next c.read-2.result
    (omega (arith, held, c.in_ok-inside.ensures)) (omega (arith, joint, cut.from)) (omega (arith, joint, cut.near)) (omega (arith, joint, cut.next))
    parts.front_len parts.back_len c.in_ok-read.ensures c.read-2.ensures
