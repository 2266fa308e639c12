-- What a write to the front of a list leaves.
use Rattle.std.proofs.Common.{◌≡◌, ℕ, ◌<◌, ◌≤◌, List, ◌++◌, length, take, drop, sym, ap, ◌∙◌, arith}
use Rattle.std.proofs.lemmas.List.{take_all, take_at, length-append, length-drop}
use Rattle.shelf.specs.declared.refusal.Refusal.{Refusal}
use Rattle.shelf.specs.Meaning.{Unfit}
use Rattle.shelf.specs.Meaning.Unfit.{not_above, too_long}

-- the buffer after a write to its front
pub stocked_length : (given buf : List ℕ) → length given ≤ length buf → length (given ++ drop (length given) buf) ≡ length buf
stocked_length given buf h = simp (length-append, length-drop) (omega arith)

pub stocked_bytes : (top n : ℕ) (given buf after : List ℕ) → n ≡ length given → after ≡ given ++ drop (length given) buf → length given ≤ top → take top (take n after) ≡ given
stocked_bytes top n given buf after e f h =
    ap (λ (xs : List ℕ). take top (take n xs)) f ∙ ap (take top) (take_at given (drop (length given) buf) n (sym e)) ∙ take_all top given h

-- what fits is not refused
pub fit_not_unfit : (capacity stamp size new : ℕ) (e : Refusal) → stamp < new → size ≤ capacity → Unfit capacity stamp size new e → ⊥
fit_not_unfit capacity stamp size new e above fits (not_above le says) = omega arith
fit_not_unfit capacity stamp size new e above fits (too_long lt over says) = omega arith
