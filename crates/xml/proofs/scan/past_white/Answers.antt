use Rattle.xml.specs.Bytes.{white}
use Rattle.xml.proofs.Steps.{longest_ends}
use Rattle.xml.proofs.scan.past_white.Goals as goal

pub returns : goal.returns
returns c = longest_ends white _ _ _ c.split.ensures
