-- Both restocks are accepted, and the second decides.
use Rattle.std.proofs.Common.{length, Ok, Err, ap, ◌∙◌, arith}
use Rattle.shelf.proofs.Parts.{fit_not_unfit}
use Rattle.examples.specs.Restocks.{ShorterRestock}

pub shorter_restock : ShorterRestock
shorter_restock s t u eight three (Err e) r room mark l8 l3 a b = absurd (fit_not_unfit _ _ _ _ e (omega arith) (omega arith) a.0)
shorter_restock s t u eight three (Ok x) (Err e) room mark l8 l3 a b = absurd (fit_not_unfit _ _ _ _ e (omega (arith, a.1.stamp)) (omega (arith, a.1.capacity)) b.0)
shorter_restock s t u eight three (Ok x) (Ok y) room mark l8 l3 a b = ap length b.1.bytes ∙ l3
