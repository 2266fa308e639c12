use Rattle.std.proofs.Common.{rules, arith}
use Rattle.header.specs.Keys.{Numeral}
use Rattle.header.proofs.Amounts.{digit_at, amount_more, amount_small}
use Rattle.header.proofs.values.number.Goals as goal
use Rattle.header.proofs.values.number.Goals.{In-loop-b}

numeral : (c : In-loop-b) → Numeral c.args.text.now
numeral c = search rules

pub overflow_mul-n : goal.overflow_mul-n
overflow_mul-n c = omega (arith, c.loop-b.invariant, amount_small _ c.loop-b.b-index (numeral (goal.at.overflow_mul-n c).In-loop-b) c.loop-b.auto.b-index-end)

pub overflow_add-n : goal.overflow_add-n
overflow_add-n c =
    let n = numeral (goal.at.overflow_add-n c).In-loop-b in
    let d = digit_at _ _ n.digits c.loop-b-test.true in
    omega (arith, d, c.loop-b.invariant, amount_small _ c.loop-b.b-index n c.loop-b.auto.b-index-end)

pub loop-b-preserved : goal.loop-b-preserved
loop-b-preserved c = omega (arith, c.loop-b.invariant, amount_more c.args.text.now c.loop-b.b-index c.loop-b-test.true)
