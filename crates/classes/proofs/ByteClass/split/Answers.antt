use Rattle.std.proofs.Common.{rules}
use borrow.Author.Tests.{tests}
use Rattle.std.proofs.lemmas.Iterator.{IsFirst-from_position, YieldsList-from_slice}
use Rattle.classes.proofs.Runs.{longest}
use Rattle.classes.proofs.ByteClass.split.Goals as goal

pub returns : goal.returns
returns g c =
    let P = g.Self.ByteClass.holds c.args.self in
    let ran = IsFirst-from_position _ _ _ (λ b. P b → ⊥) P c.position-end.ensures.ran (YieldsList-from_slice c.args.bytes.now cc) (λ x q k. search (rules, tests)) (λ x q k. search (rules, tests)) in
    longest P _ _ _ _ (cc) (cc) ran
