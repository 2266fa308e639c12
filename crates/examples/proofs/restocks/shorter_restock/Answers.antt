use Rattle.std.proofs.Common.{arith, rules}
use Rattle.shelf.proofs.Parts.{fit_not_unfit}
use Rattle.examples.proofs.Shorter.{shorter_restock}
use Rattle.examples.proofs.restocks.shorter_restock.Goals as goal

pub returns-in_err-restock-2 : goal.returns-in_err-restock-2
returns-in_err-restock-2 c =
    let first = c.in_ok-restock.ensures.means in
    absurd (fit_not_unfit _ _ _ _ _ (omega (arith, first.1.stamp)) (omega (arith, first.1.capacity, first.0.fits)) c.in_err-restock-2.ensures.means.0)

pub returns : goal.returns
returns c = record { answer = search rules; always = shorter_restock }
