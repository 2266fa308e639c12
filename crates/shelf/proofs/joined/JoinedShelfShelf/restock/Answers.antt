use Rattle.std.proofs.Common.{arith}
use Rattle.shelf.specs.Meaning.{state}
use Rattle.shelf.proofs.Joints.{joined_restocks, parts_left}
use Rattle.shelf.proofs.joined.JoinedShelfShelf.restock.Goals as goal

pub returns : goal.returns
returns g c =
    let fit = c.in_ok-fit.ensures in
    let made = c.restock_parts.ensures in
    let first = state g.A.Source.bytes g.A.Source.stamp g.A.Shelf.capacity in
    let second = state g.B.Source.bytes g.B.Source.stamp g.B.Shelf.capacity in
    let s = c.args.self.now in
    let t = c.restock_parts.new.self in
    let given = c.args.given.now in
    let cut = c.min-cut.result in
    let r = c.restock_parts.result in
    let f = c.split_at.ensures.front in
    let b = c.split_at.ensures.back in
    record {
      means = joined_restocks first g.A.Shelf.leaves second g.B.Shelf.leaves s t given _ _ c.args.stamp cut r (omega arith) f b made.both made.first made.second
          (record { above = omega (arith, fit.above); fits = omega (arith, fit.fits) });
      leaves = parts_left first g.A.Shelf.leaves second g.B.Shelf.leaves s t given _ _ c.args.stamp cut r (omega arith) f b made.both made.first made.second;
    }
