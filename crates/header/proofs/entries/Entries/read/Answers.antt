use Rattle.std.proofs.Common.{rules, refl, arith}
use Rattle.std.proofs.lemmas.Bool.{false≢true}
use Rattle.std.proofs.lemmas.List.{map_push, length-map}
use Rattle.header.specs.Entries.{line_of}
use Rattle.header.specs.Lines.LinesRefused.{malformed}
use Rattle.header.proofs.Reading.{read_more, read_all, read_wrong, ends_at}
use Rattle.header.proofs.entries.Entries.read.Goals as goal

pub loop-line-preserved : goal.loop-line-preserved
loop-line-preserved c =
    let step = c.in-Some.ensures.steps in
    let pushed = c.push.ensures.items in (
      omega (arith, c.loop-line.invariant.0, step.1, c.push.ensures.len),
      rw (pushed, map_push, step.0.1) (read_more c.loop-line.invariant.1 _ _ _ step.0.0 (omega (arith, length-map c.loop-line.self.all.items line_of, c.loop-line.invariant.0, step.1))),
    )

pub returns-then-not-starts_with : goal.returns-then-not-starts_with
returns-then-not-starts_with c =
    malformed c.loop-line.self.end (search rules)
    (read_wrong c.loop-line.invariant.1
    (λ few. (c.in-None.ensures.steps (omega (arith, few, length-map c.loop-line.self.all.items line_of, c.loop-line.invariant.0))).0)
    (λ h. false≢true ((ends_at c.args.head.now c.loop-line.self.end _ c.if-not-starts_with.ensures.value).1 h)))

pub returns : goal.returns
returns c = read_all c.loop-line.invariant.1 ((ends_at c.args.head.now c.loop-line.self.end _ c.if-not-starts_with.ensures.value).0 refl)
