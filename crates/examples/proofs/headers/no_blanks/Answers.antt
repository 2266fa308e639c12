use Rattle.std.proofs.Common.{ℕ, List, [], Err, sym, subst}
use Rattle.shelf.specs.declared.refusal.Reason.TheVariants.{LineMalformed}
use Rattle.header.specs.Rows.{Refused}
use Rattle.examples.proofs.Cases.{no_blanks}
use Rattle.examples.proofs.headers.no_blanks.Goals as goal

pub returns : goal.returns
returns c = record {
  answer = sym (c.head.ensures.only (Err (record { reason = LineMalformed; place = 11 })) (subst (λ (file : List ℕ). Refused file (record { reason = LineMalformed; place = 11 })) (sym c.new.ensures.bytes) (no_blanks [])));
  always = no_blanks;
}
