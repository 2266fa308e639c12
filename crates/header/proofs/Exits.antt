-- What the exit of a `?` answers.
use Rattle.std.proofs.Common.{◌≡◌, Ok, Err, Result, MatchResult, sym, subst}
use Rattle.std.specs.Result.{IsErrAnd}

-- r is the refusal e, of which Q holds
pub exit : {T E : Type 0} (P : T → Type 0) (Q : E → Type 0) (r : Result T E) (e : E) → IsErrAnd r (λ y. y ≡ e) → Q e → MatchResult r P Q
exit P Q (Ok x) e h q = absurd h
exit P Q (Err y) e h q = subst Q (sym h) q
