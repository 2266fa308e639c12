use Rattle.std.proofs.Common.{ℕ, List, [], Err, sym, subst}
use Rattle.shelf.specs.declared.refusal.Reason.TheVariants.{NotCphd}
use Rattle.header.specs.Rows.{Refused}
use Rattle.examples.proofs.Cases.{other_version}
use Rattle.examples.proofs.headers.other_version.Goals as goal

pub returns : goal.returns
returns c = record {
  answer = sym (c.head.ensures.only (Err (record { reason = NotCphd; place = 0 })) (subst (λ (file : List ℕ). Refused file (record { reason = NotCphd; place = 0 })) (sym c.new.ensures.bytes) (other_version [])));
  always = other_version;
}
