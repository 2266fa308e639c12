use Rattle.std.proofs.Common.{rules, ℕ, ◌+◌, ◌<◌, length, drop, sym, subst, arith, length-drop, List}
use Rattle.std.proofs.lemmas.List.{take_all}
use Rattle.xml.specs.Reads.{Ends}
use Rattle.xml.specs.Forms.{PairForm}
use Rattle.xml.proofs.Steps.{reads_none}
use Rattle.xml.proofs.Comments.{IsPair, pair_missing, pair_found}
use Rattle.xml.proofs.scan.past_pair.Goals as goal

pub returns-in_err-at : goal.returns-in_err-at
returns-in_err-at c =
    let text = c.args.text.now in
    let none : (k : ℕ) → k + 1 < length text → IsPair c.args.a c.args.b text k → ⊥ = search rules in
    reads_none (PairForm c.args.a c.args.b) text _ c.from_residual.ensures (pair_missing c.args.a c.args.b text none)

pub returns : goal.returns
returns c =
    let text = c.args.text.now in
    let a = c.args.a in
    let b = c.args.b in
    let i = c.in_ok-at.at in
    let within : i + 1 < length text = search rules in
    let here : IsPair a b text i = search rules in
    let first : (k : ℕ) → k < i → IsPair a b text k → ⊥ = search rules in
    let P : List ℕ → Type 0 = λ l. Ends (PairForm a b) text l in
    subst P (sym (take_all _ (drop (i + 2) text) (omega (arith, length-drop (i + 2) text)))) (pair_found a b text i within here first)
