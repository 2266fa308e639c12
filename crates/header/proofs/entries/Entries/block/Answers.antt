use Rattle.header.specs.Keys.BlockRefused.{no_place}
use Rattle.header.proofs.Exits.{exit}
use Rattle.header.proofs.entries.Entries.block.Goals as goal

pub returns-in_err-number-2 : goal.returns-in_err-number-2
returns-in_err-number-2 c = exit _ _ _ _ c.from_residual-in_err-number-2.ensures.1 (no_place _ c.in_ok-number.ensures c.in_err-number-2.ensures)
