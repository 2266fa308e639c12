use Rattle.xml.proofs.Unique.{document_unique}
use Rattle.xml.proofs.document.well_formed.Goals as goal

pub returns-clause-one : goal.returns-clause-one
returns-clause-one c = document_unique c.args.text.now
