use Rattle.std.proofs.Common.{rules, ◌≡◌, ◌<◌, false, None, Some, length}
use Rattle.xml.specs.Bytes.{white, tag_end}
use Rattle.xml.specs.Reads.{begins}
use Rattle.xml.specs.Forms.{TailForm}
use Rattle.xml.proofs.Steps.{reads_as, reads_none, onward, longest}
use Rattle.xml.proofs.Tags.{tail_ends, tail_none, tail_more, tail_step}
use Rattle.xml.proofs.tag.tail.Goals as goal

pub returns-in-62 : goal.returns-in-62
returns-in-62 c =
    let rest = c.split.result.1 in
    reads_as TailForm TailForm _ _ (Some rest) c.loop-space.invariant (tail_ends _ rest.now (longest white _ _ _ c.split.ensures) (search rules))

pub returns-in_default : goal.returns-in_default
returns-in_default c =
    let closed : begins tag_end c.split.result.1.now ≡ false = search rules in
    reads_as TailForm TailForm _ _ None c.loop-space.invariant (tail_none _ _ _ c.split.ensures (search rules) closed)

pub returns-in_err-left-in_default-2 : goal.returns-in_err-left-in_default-2
returns-in_err-left-in_default-2 c =
    let closed : begins tag_end c.split.result.1.now ≡ false = search rules in
    reads_none TailForm _ _ c.from_residual.ensures
    (reads_as TailForm TailForm _ _ None c.loop-space.invariant
    (λ ys f. let first = tail_more _ _ ys (longest white _ _ _ c.split.ensures) closed f in c.in_err-left-in_default-2.ensures first.rest first.form))

pub loop-space-preserved : goal.loop-space-preserved
loop-space-preserved c =
    let closed : begins tag_end c.split.result.1.now ≡ false = search rules in
    let some : 0 < length c.split.result.0.now = search rules in
    onward TailForm _ _ _ c.loop-space.invariant (tail_step _ _ _ _ c.split.ensures some closed c.in_ok-left-in_default-2.ensures)
