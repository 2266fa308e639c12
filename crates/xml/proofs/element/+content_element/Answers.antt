use Rattle.std.proofs.Common.{rules, ◌≡◌, ℕ, ◌-◌, List, [], ◌∷◌, None, Some, subst, arith}
use Rattle.xml.specs.Ahead.{at_end_tag, ahead}
use Rattle.xml.specs.Reads.{Form, Literal, Then}
use Rattle.xml.specs.Forms.{EndForm, ContentForm}
use Rattle.xml.specs.Elements.{FirstElement}
use Rattle.xml.proofs.Steps.{reads_as, reads_none, reads_then, missing_first, onward, literal_reads}
use Rattle.xml.proofs.Contents.{skip_within, content_within, content_ends, close_stops, skip_same, skip_none, element_step, element_none}
use Rattle.xml.proofs.Elements.{no_depth, no_element, answer_none, element_ends, element_forward, empty_element, full_element, refused}
use Rattle.xml.proofs.element.+content_element.Goals as goal

-- what stops content
abbrev Close : List ℕ → Type 0
Close ys = ahead ys ≡ at_end_tag

pub content-returns-in_err-next : goal.content-returns-in_err-next
content-returns-in_err-next t c =
    let d = c.args.depth in
    reads_none (ContentForm d) _ _ c.from_residual.ensures (reads_as (ContentForm d) (ContentForm d) _ _ None c.loop-next.invariant (skip_none d _ c.in_err-next.ensures))

pub content-returns-then-starts_with : goal.content-returns-then-starts_with
content-returns-then-starts_with t c =
    let d = c.args.depth in
    let next = c.in_ok-next.next in
    let close : ahead next.now ≡ at_end_tag = search rules in
    reads_as (ContentForm d) (ContentForm d) _ _ (Some next) (onward (ContentForm d) _ _ _ c.loop-next.invariant (skip_same d _ _ c.in_ok-next.ensures.is)) (content_ends d next.now close)

pub content-returns-in_err-left : goal.content-returns-in_err-left
content-returns-in_err-left t c =
    let d = c.args.depth in
    let next = c.in_ok-next.next in
    let goes_on : ahead next.now ≡ at_end_tag → ⊥ = search rules in
    reads_none (ContentForm d) _ _ c.from_residual-in_err-left.ensures
    (reads_as (ContentForm d) (ContentForm d) _ _ None (onward (ContentForm d) _ _ _ c.loop-next.invariant (skip_same d _ _ c.in_ok-next.ensures.is))
    (element_none Close d close_stops _ c.in_ok-next.ensures.is.stops goes_on c.in_err-left.ensures))

pub content-loop-next-smaller : goal.content-loop-next-smaller
content-loop-next-smaller t c =
    let skipped = skip_within _ _ c.in_ok-next.ensures.is in
    let behind = element_forward c.args.depth _ _ _ _ c.in_ok-left.ensures in
    omega arith

pub content-loop-next-preserved : goal.content-loop-next-preserved
content-loop-next-preserved t c =
    let d = c.args.depth in
    let next = c.in_ok-next.next in
    let goes_on : ahead next.now ≡ at_end_tag → ⊥ = search rules in
    onward (ContentForm d) _ _ _ c.loop-next.invariant
    (onward (ContentForm d) _ _ _ (skip_same d _ _ c.in_ok-next.ensures.is)
    (element_step Close d close_stops _ _ c.in_ok-next.ensures.is.stops goes_on (element_ends d _ _ _ _ c.in_ok-left.ensures)))

pub element-returns-then-depth-eq0 : goal.element-returns-then-depth-eq0
element-returns-then-depth-eq0 t c = no_depth c.args.depth c.args.text.now c.if-depth-eq0.true

pub element-returns-in_err-name : goal.element-returns-in_err-name
element-returns-in_err-name t c = answer_none c.args.depth _ _ c.from_residual.ensures (no_element c.args.depth _ c.in_err-name.ensures)

pub element-returns-in-Some : goal.element-returns-in-Some
element-returns-in-Some t c =
    let tag = c.in_ok-name.tag.now in
    let rest = c.in-Some.rest in
    empty_element c.args.text.now _ tag c.in_ok-name.ensures c.args.depth rest.now (omega arith) (literal_reads (47 ∷ 62 ∷ []) tag (Some rest) c.in-Some.ensures.cases).is

-- what stands behind a start tag's `>`
abbrev Held : ℕ → List ℕ → Form
Held d name = Then (ContentForm (d - 1)) (EndForm name)

pub element-returns-in_err-inner : goal.element-returns-in_err-inner
element-returns-in_err-inner t c =
    let tag = c.in_ok-name.tag.now in
    let d = c.args.depth in
    let name = c.in_ok-name.name.now in
    refused _ name tag c.in_ok-name.ensures d _ c.from_residual-in_err-inner.ensures c.in_default.ensures.cases
    (missing_first (Literal (62 ∷ [])) (Held d name) tag (literal_reads (62 ∷ []) tag None c.in_err-inner.ensures.cases))

pub element-returns-in_err-close : goal.element-returns-in_err-close
element-returns-in_err-close t c =
    let tag = c.in_ok-name.tag.now in
    let d = c.args.depth in
    let name = c.in_ok-name.name.now in
    let inner = c.in_ok-inner.inner in
    refused _ name tag c.in_ok-name.ensures d _ c.from_residual-in_err-close.ensures c.in_default.ensures.cases
    (reads_then (Literal (62 ∷ [])) (Held d name) tag inner.now None (literal_reads (62 ∷ []) tag (Some inner) c.in_ok-inner.ensures.cases)
    (missing_first (ContentForm (d - 1)) (EndForm name) inner.now c.in_err-close.ensures))

pub element-returns-in_err-rest : goal.element-returns-in_err-rest
element-returns-in_err-rest t c =
    let tag = c.in_ok-name.tag.now in
    let d = c.args.depth in
    let name = c.in_ok-name.name.now in
    let inner = c.in_ok-inner.inner in
    refused _ name tag c.in_ok-name.ensures d _ c.from_residual-in_err-rest.ensures c.in_default.ensures.cases
    (reads_then (Literal (62 ∷ [])) (Held d name) tag inner.now None (literal_reads (62 ∷ []) tag (Some inner) c.in_ok-inner.ensures.cases)
    (reads_then (ContentForm (d - 1)) (EndForm name) inner.now _ None c.in_ok-close.ensures c.in_err-rest.ensures))

pub element-slice_bounds-content-count : goal.element-slice_bounds-content-count
element-slice_bounds-content-count t c = let within = content_within _ _ _ c.in_ok-close.ensures.is in omega arith

pub element-returns : goal.element-returns
element-returns t c =
    let tag = c.in_ok-name.tag.now in
    let inner = c.in_ok-inner.inner in
    subst (λ held. FirstElement c.args.depth c.args.text.now c.in_ok-name.name.now held c.in_ok-rest.rest.now) (search rules)
    (full_element c.args.text.now _ tag c.in_ok-name.ensures c.args.depth inner.now _ _ (omega arith) (literal_reads (62 ∷ []) tag (Some inner) c.in_ok-inner.ensures.cases).is c.in_ok-close.ensures.is c.in_ok-rest.ensures.is)
