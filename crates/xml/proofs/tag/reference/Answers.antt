use Rattle.std.proofs.Common.{rules, ℕ, List, None, Bor, arith}
use Rattle.std.proofs.ByRecursion.{All-more}
use Rattle.xml.specs.Reads.{Literal, Missing}
use Rattle.xml.specs.Forms.{EntityForm}
use Rattle.xml.proofs.Steps.{literal_reads, all_taken}
use Rattle.xml.proofs.References.{entity_ends, entity_missing}
use Rattle.xml.proofs.tag.reference.Goals as goal

pub loop-written-preserved : goal.loop-written-preserved
loop-written-preserved c =
    let P : Bor (List ℕ) → Type 0 = λ w. Missing (Literal w.now) c.args.text.now in
    All-more P _ c.loop-written.written-index _ (omega arith) c.loop-written.invariant (literal_reads _ c.args.text.now None c.in_default.ensures.cases)

pub returns-in-Some-clause-reads : goal.returns-in-Some-clause-reads
returns-in-Some-clause-reads c =
    let e : EntityForm c.args.text.now c.in-Some.rest.now = search rules in
    entity_ends _ _ e.0 e.1

pub returns-clause-reads : goal.returns-clause-reads
returns-clause-reads c =
    let P : Bor (List ℕ) → Type 0 = λ w. Missing (Literal w.now) c.args.text.now in
    entity_missing c.args.text.now (all_taken P _ _ c.loop-written-test.false c.loop-written.invariant)
