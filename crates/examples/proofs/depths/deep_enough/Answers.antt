use Rattle.std.proofs.Common.{sym, subst, arith}
use Rattle.xml.specs.Grammar.{IsDocument}
use Rattle.examples.proofs.Nested.{depth_limit}
use Rattle.examples.proofs.depths.deep_enough.Goals as goal

pub returns : goal.returns
returns c = record { answer = c.well_formed-2.ensures.answer.1 (subst IsDocument (sym c.sixteen.ensures) ((depth_limit 15).0 (omega arith))); always = depth_limit }
