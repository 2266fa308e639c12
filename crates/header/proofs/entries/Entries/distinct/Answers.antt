use Rattle.std.proofs.Common.{rules, Decides, is_some, refl, sym, ◌∙◌, arith, below_more, map}
use Rattle.std.proofs.lemmas.Bool.{false≢true}
use Rattle.std.proofs.lemmas.List.{length-map}
use Rattle.header.specs.Entries.{line_of}
use Rattle.header.specs.Lines.{Repeats}
use Rattle.header.proofs.Finding.{stood_before, line_at_entry}
use Rattle.header.proofs.entries.Entries.distinct.Goals as goal
use Rattle.header.proofs.entries.Entries.distinct.Goals.{After-find_key}

-- whether the key of this line stood before
repeats : (c : After-find_key) → Decides (is_some c.find_key.result) (Repeats (map line_of c.as_slice-entries.result.now) c.loop-j.j)
repeats c = stood_before c.as_slice-entries.result.now _ c.loop-j.j _ c.find_key.result (grind arith) (omega arith) refl c.find_key.ensures

pub returns-then-is_some : goal.returns-then-is_some
returns-then-is_some c =
    rw (← c.as_slice-entries.ensures.value)
    (record {
      j = c.loop-j.j;
      within = omega (arith, length-map c.as_slice-entries.result.now line_of);
      says = rw (line_at_entry c.as_slice-entries.result.now c.loop-j.j (omega arith)) (search rules);
      repeats = (repeats (goal.at.returns-then-is_some c).After-find_key).0 (sym c.if-is_some.ensures);
      first = c.loop-j.invariant;
    })

pub loop-j-preserved : goal.loop-j-preserved
loop-j-preserved c = below_more _ _ c.loop-j.invariant (λ r. false≢true (c.if-is_some.ensures ∙ (repeats (goal.at.loop-j-preserved c).After-find_key).1 r))

pub returns : goal.returns
returns c = rw (← c.as_slice-entries.ensures.value) (λ j lt. c.loop-j.invariant j (omega (arith, lt, length-map c.as_slice-entries.result.now line_of)))
