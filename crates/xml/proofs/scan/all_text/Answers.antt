use Rattle.std.proofs.Common.{rules, Bool, true, ◌&&◌, Decides, refl, sym, subst}
use borrow.Author.Tests.{tests}
use Rattle.std.proofs.lemmas.Iterator.{YieldsList-from_slice}
use Rattle.std.proofs.lemmas.Iterator.Consumers.{fold_from_yields_List}
use Rattle.xml.specs.Bytes.{AllOf, text_byte}
use Rattle.xml.proofs.Steps.{all_told}
use Rattle.xml.proofs.scan.all_text.Goals as goal

pub returns : goal.returns
returns c =
    let block = c.args.block.now in
    let folded = fold_from_yields_List _ (λ a b. a && text_byte b) true c.fold.result c.fold.ensures.ran (YieldsList-from_slice block cc) (λ a x b q k. search (rules, tests)) in
    let P : Bool → Type 0 = λ r. Decides r (AllOf text_byte block) in
    let told = all_told text_byte true block in
    subst P (sym folded) (λ e. (told.0 e).1, λ h. told.1 (refl, h))
