use Rattle.std.proofs.Common.{rules, ◌<◌, length, None, Some}
use Rattle.xml.specs.Reads.{Form, Then}
use Rattle.xml.specs.Grammar.{most_depth}
use Rattle.xml.specs.Forms.{ElementForm, MiscForm, DeclarationForm}
use Rattle.xml.proofs.Steps.{missing_first, reads_then}
use Rattle.xml.proofs.Elements.{element_ends}
use Rattle.xml.proofs.Documents.{root_none, not_all, root_read}
use Rattle.xml.proofs.document.document_root.Goals as goal

abbrev Root : Form
Root = Then (ElementForm most_depth) MiscForm

abbrev Body : Form
Body = Then MiscForm Root

pub returns-in_err-head : goal.returns-in_err-head
returns-in_err-head c = root_none _ _ c.from_residual.ensures (missing_first DeclarationForm Body _ c.in_err-head.ensures)

pub returns-in_err-start : goal.returns-in_err-start
returns-in_err-start c =
    root_none _ _ c.from_residual-in_err-start.ensures
    (reads_then DeclarationForm Body _ _ None c.in_ok-head.ensures
    (missing_first MiscForm Root _ c.in_err-start.ensures))

pub returns-in_err-root : goal.returns-in_err-root
returns-in_err-root c =
    root_none _ _ c.from_residual-in_err-root.ensures
    (reads_then DeclarationForm Body _ _ None c.in_ok-head.ensures
    (reads_then MiscForm Root _ _ None c.in_ok-start.ensures
    (missing_first (ElementForm most_depth) MiscForm _ c.in_err-root.ensures)))

pub returns-in_err-last : goal.returns-in_err-last
returns-in_err-last c =
    root_none _ _ c.from_residual-in_err-last.ensures
    (reads_then DeclarationForm Body _ _ None c.in_ok-head.ensures
    (reads_then MiscForm Root _ _ None c.in_ok-start.ensures
    (reads_then (ElementForm most_depth) MiscForm _ _ None (element_ends most_depth _ _ _ _ c.in_ok-root.ensures) c.in_err-last.ensures)))

pub returns-then-not-is_empty : goal.returns-then-not-is_empty
returns-then-not-is_empty c =
    let last = c.in_ok-last.last in
    let more : 0 < length last.now = search rules in
    not_all _ last.now
    (reads_then DeclarationForm Body _ _ (Some last) c.in_ok-head.ensures
    (reads_then MiscForm Root _ _ (Some last) c.in_ok-start.ensures
    (reads_then (ElementForm most_depth) MiscForm _ _ (Some last) (element_ends most_depth _ _ _ _ c.in_ok-root.ensures) c.in_ok-last.ensures)))
    more

pub returns : goal.returns
returns c = root_read _ _ _ _ _ _ _ c.in_ok-head.ensures.is c.in_ok-start.ensures.is c.in_ok-root.ensures c.in_ok-last.ensures.is (search rules)
