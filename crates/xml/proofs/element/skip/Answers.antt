use Rattle.std.proofs.Common.{rules, ◌≡◌, ℕ, List, None, Some, sym, subst}
use Rattle.xml.specs.Bytes.{text_byte}
use Rattle.xml.specs.Ahead.{at_reference, at_comment, ahead, Stops}
use Rattle.xml.specs.Forms.{SkipForm}
use Rattle.xml.proofs.Steps.{Same, reads_as, reads_none, onward, span_forward}
use Rattle.xml.proofs.Contents.{text_step, reference_step, reference_none, comment_step, comment_none, skip_ends}
use Rattle.xml.proofs.element.skip.Goals as goal

-- what stops what is skipped
abbrev Stop : List ℕ → Type 0
Stop ys = Stops (ahead ys)

pub loop-left-smaller-in-len1-up : goal.loop-left-smaller-in-len1-up
loop-left-smaller-in-len1-up c = span_forward text_byte c.loop-left.left.now _ c.past_text-left.ensures c.in-len1-up.len_at_least (search rules)

pub loop-left-preserved-in-len1-up : goal.loop-left-preserved-in-len1-up
loop-left-preserved-in-len1-up c =
    let left = c.loop-left.left.now in
    let s = c.past_text-left.ensures in
    let P : List ℕ → Type 0 = λ l. Same SkipForm l SkipForm c.past_text-left.result.now in
    onward SkipForm _ left _ c.loop-left.invariant (subst P (sym s.longest.whole) (text_step Stop 0 (λ ys z. z) s.run _ s.longest.all))

pub returns-in_err-left-in-38 : goal.returns-in_err-left-in-38
returns-in_err-left-in-38 c =
    let next : ahead c.loop-left.left.now ≡ at_reference = search rules in
    reads_none SkipForm _ _ c.from_residual-in_err-left-in-38.ensures
    (reads_as SkipForm SkipForm _ _ None c.loop-left.invariant (reference_none Stop 0 (λ ys z. z) _ next c.in_err-left-in-38.ensures.reads))

pub loop-left-preserved : goal.loop-left-preserved
loop-left-preserved c =
    let next : ahead c.loop-left.left.now ≡ at_reference = search rules in
    onward SkipForm _ _ _ c.loop-left.invariant (reference_step Stop 0 (λ ys z. z) _ _ next c.in_ok-left-in-38.ensures.reads)

pub returns-in_err-left-in-60 : goal.returns-in_err-left-in-60
returns-in_err-left-in-60 c =
    let next : ahead c.loop-left.left.now ≡ at_comment = search rules in
    reads_none SkipForm _ _ c.from_residual.ensures (reads_as SkipForm SkipForm _ _ None c.loop-left.invariant (comment_none Stop 0 (λ ys z. z) _ next c.in_err-left-in-60.ensures.reads))

pub loop-left-preserved-in_ok-left-in-60 : goal.loop-left-preserved-in_ok-left-in-60
loop-left-preserved-in_ok-left-in-60 c =
    let next : ahead c.loop-left.left.now ≡ at_comment = search rules in
    onward SkipForm _ _ _ c.loop-left.invariant (comment_step Stop 0 (λ ys z. z) _ _ next c.in_ok-left-in-60.ensures.reads)

pub returns-in_default : goal.returns-in_default
returns-in_default c =
    let left = c.loop-left.left in
    let stops : Stops (ahead left.now) = search rules in
    reads_as SkipForm SkipForm _ _ (Some left) c.loop-left.invariant (skip_ends left.now stops)
