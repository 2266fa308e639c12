use Rattle.std.proofs.Common.{ℕ, List, ◌++◌, ◌∙◌, subst, take-append-drop}
use Rattle.xml.specs.Bytes.{text_byte}
use Rattle.xml.specs.Reads.{Span}
use Rattle.xml.proofs.Steps.{longest, span_more}
use Rattle.xml.proofs.scan.past_text.Goals as goal

pub loop-block-preserved : goal.loop-block-preserved
loop-block-preserved c ys s =
    let block = c.in-Some.block.now in
    let more = c.in-Some.more.now in
    let parts = c.in-Some.ensures.cases in
    let P : List ℕ → Type 0 = λ l. Span text_byte l ys in
    c.loop-block.invariant ys (subst P ((λ i. parts.0 i ++ parts.1 i) ∙ take-append-drop 32 c.loop-block.left.now) (span_more text_byte block more ys (c.all_text.ensures.0 c.if-not-all_text.false) s))

pub returns : goal.returns
returns c = c.loop-block.invariant _ (longest text_byte _ _ _ c.split.ensures)
