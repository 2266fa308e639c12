use Rattle.std.proofs.Common.{codes, Some}
use Rattle.xml.specs.Forms.{PairForm, DeclarationForm}
use Rattle.xml.proofs.Steps.{reads_as, literal_reads}
use Rattle.xml.proofs.Documents.{declared_same}
use Rattle.xml.proofs.document.declaration.Goals as goal

pub returns-in-Some : goal.returns-in-Some
returns-in-Some c =
    let text = c.args.text.now in
    let body = c.in-Some.body in
    reads_as (PairForm 63 62) DeclarationForm text body.now _ (declared_same text body.now (literal_reads (codes "<?xml") text (Some body) c.in-Some.ensures.cases).is) c.past_pair.ensures
