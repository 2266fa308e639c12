use Rattle.std.proofs.Common.{◌≡◌, [], ◌∷◌, ◌++◌, Some, None, arith}
use Rattle.std.proofs.lemmas.Slice.Eq.{strip_prefix_is}
use Rattle.std.proofs.lemmas.Bool.Decides.{Decides-eqb}
use Rattle.header.proofs.Runs.{none_no_separator, none_no_line_feed, none_empty, only_line}
use Rattle.header.proofs.text.first_line.Goals as goal
use Rattle.header.proofs.text.first_line.Goals.{In_ok-strip_prefix, In_ok-rest, then-is_empty-via-then-is_empty, then-is_empty-via-else-is_empty+then-is_empty-2}

-- the separator stands behind the key
separated : (c : In_ok-strip_prefix) → c.split.result.1.now ≡ (32 ∷ 58 ∷ 61 ∷ 32 ∷ []) ++ c.in_ok-strip_prefix.field-0.now
separated c = strip_prefix_is Decides-eqb _ (32 ∷ 58 ∷ 61 ∷ 32 ∷ []) (Some c.in_ok-strip_prefix.field-0) c.in_ok-strip_prefix.ensures.cases

-- and the line feed behind the value
ended : (c : In_ok-rest) → c.split-2.result.1.now ≡ (10 ∷ []) ++ c.in_ok-rest.rest.now
ended c = c.in_ok-rest.ensures

pub returns-in_err-strip_prefix : goal.returns-in_err-strip_prefix
returns-in_err-strip_prefix c =
    rw c.from_residual.ensures (none_no_separator c.split.ensures (strip_prefix_is Decides-eqb _ (32 ∷ 58 ∷ 61 ∷ 32 ∷ []) None c.in_err-strip_prefix.ensures.cases))

pub returns-in_err-rest : goal.returns-in_err-rest
returns-in_err-rest c =
    rw c.from_residual-in_err-rest.ensures
    (none_no_line_feed c.split.ensures (separated (goal.at.returns-in_err-rest c).In_ok-strip_prefix) c.split-2.ensures c.in_err-rest.ensures)

pub returns-then-is_empty : goal.returns-then-is_empty
returns-then-is_empty c =
    none_empty c.split.ensures (separated (goal.at.returns-then-is_empty c).In_ok-strip_prefix) c.split-2.ensures
    (λ h. elim c.then-is_empty.branch [ then-is_empty-via-then-is_empty w ↦ grind arith | then-is_empty-via-else-is_empty+then-is_empty-2 w ↦ grind arith ])

pub returns : goal.returns
returns c =
    only_line c.split.ensures (separated (goal.at.returns c).In_ok-strip_prefix) c.split-2.ensures _ (grind arith) (grind arith) (ended (goal.at.returns c).In_ok-rest)
