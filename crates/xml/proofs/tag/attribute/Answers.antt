use Rattle.std.proofs.Common.{[], ◌∷◌, Some, None}
use Rattle.xml.specs.Bytes.{white, attribute_byte}
use Rattle.xml.specs.Reads.{Form, Literal, Span, Then}
use Rattle.xml.specs.Forms.{NameForm, ValueForm, AttributeForm}
use Rattle.xml.proofs.Steps.{missing_first, reads_then, reads_none, literal_reads}
use Rattle.xml.proofs.Forms.{name_ends}
use Rattle.xml.proofs.tag.attribute.Goals as goal

abbrev Last : Form
Last = Then (Span white) ValueForm

abbrev Sign : Form
Sign = Then (Literal (61 ∷ [])) Last

abbrev Rest : Form
Rest = Then (Span white) Sign

pub returns-in_err-rest-2 : goal.returns-in_err-rest-2
returns-in_err-rest-2 c =
    let text = c.args.text.now in
    let name = c.in_ok-rest.rest.now in
    let space = c.past_white.result.now in
    reads_none AttributeForm text _ c.from_residual-in_err-rest-2.ensures
    (reads_then (NameForm attribute_byte) Rest text name None (name_ends attribute_byte text _ name c.in_ok-rest.ensures)
    (reads_then (Span white) Sign name space None c.past_white.ensures
    (missing_first (Literal (61 ∷ [])) Last space (literal_reads (61 ∷ []) space None c.in_err-rest-2.ensures.cases))))

pub returns : goal.returns
returns c =
    let text = c.args.text.now in
    let name = c.in_ok-rest.rest.now in
    let space = c.past_white.result.now in
    let sign = c.in_ok-rest-2.rest in
    reads_then (NameForm attribute_byte) Rest text name _ (name_ends attribute_byte text _ name c.in_ok-rest.ensures)
    (reads_then (Span white) Sign name space _ c.past_white.ensures
    (reads_then (Literal (61 ∷ [])) Last space sign.now _ (literal_reads (61 ∷ []) space (Some sign) c.in_ok-rest-2.ensures.cases)
    (reads_then (Span white) ValueForm sign.now c.past_white-2.result.now _ c.past_white-2.ensures c.value.ensures)))
