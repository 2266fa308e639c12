-- A number stands for one reason.
use Rattle.std.proofs.Common.{◌≡◌, ℕ, ap, rules}
use Rattle.shelf.specs.declared.refusal.Reason.{Reason}
use Rattle.shelf.specs.declared.refusal.Refusal.{Refusal}
use Rattle.shelf.specs.Refusals.{Place, Says, number}

pub one_reason : (q r : Reason) → number q ≡ number r → q ≡ r
one_reason q r e = search rules

-- the number that a refusal says
pub said : {e : Refusal} {n : ℕ} {kind : Place} {p : ℕ} → Says e n kind p → number e.reason ≡ n
said {e} {n} {kind} {p} s = ap (λ (x : ℕ × Place). x.0) s.reason
