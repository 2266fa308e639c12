use Rattle.std.proofs.Common.{rules, [], ◌∷◌, Some, None}
use Rattle.xml.specs.Bytes.{white}
use Rattle.xml.specs.Reads.{Form, Literal, Span, Then}
use Rattle.xml.specs.Forms.{EndForm}
use Rattle.xml.proofs.Steps.{missing_first, reads_then, reads_none, reads_as, literal_reads}
use Rattle.xml.proofs.Forms.{EndChain, end_same}
use Rattle.xml.proofs.tag.end_tag.Goals as goal

abbrev Close : Form
Close = Then (Span white) (Literal (62 ∷ []))

pub returns-in_err-rest-2 : goal.returns-in_err-rest-2
returns-in_err-rest-2 c =
    let text = c.args.text.now in
    let name = c.args.of.now in
    let rest = c.in_ok-rest.rest in
    reads_none (EndForm name) text _ c.from_residual-in_err-rest-2.ensures
    (reads_as (EndChain name) (EndForm name) text text None (end_same name text)
    (reads_then (Literal (60 ∷ 47 ∷ [])) (Then (Literal name) Close) text rest.now None (literal_reads (60 ∷ 47 ∷ []) text (Some rest) c.in_ok-rest.ensures.cases)
    (missing_first (Literal name) Close rest.now (literal_reads name rest.now None (search rules)))))

pub returns : goal.returns
returns c =
    let text = c.args.text.now in
    let name = c.args.of.now in
    let rest = c.in_ok-rest.rest in
    let space = c.in_ok-rest-2.rest in
    let close = c.past_white.result.now in
    reads_as (EndChain name) (EndForm name) text text _ (end_same name text)
    (reads_then (Literal (60 ∷ 47 ∷ [])) (Then (Literal name) Close) text rest.now _ (literal_reads (60 ∷ 47 ∷ []) text (Some rest) c.in_ok-rest.ensures.cases)
    (reads_then (Literal name) Close rest.now space.now _ (literal_reads name rest.now (Some space) (search rules))
    (reads_then (Span white) (Literal (62 ∷ [])) space.now close _ c.past_white.ensures (literal_reads (62 ∷ []) close _ c.strip_prefix-3.ensures.cases))))
