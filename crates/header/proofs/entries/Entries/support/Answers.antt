use Rattle.header.specs.Lines.{Absent}
use Rattle.header.specs.Entries.{lines_of}
use Rattle.header.specs.Keys.{name}
use Rattle.header.specs.declared.keys.Key.TheVariants.{SupportSize, SupportPlace}
use Rattle.std.proofs.lemmas.Bool.Decides.{not_from_Decides}
use Rattle.header.proofs.entries.Entries.support.Goals as goal

pub returns-then-not-has : goal.returns-then-not-has
returns-then-not-has c =
    let absent : Absent (lines_of c.args.self.now) (name SupportSize) = λ i m. not_from_Decides _ c.has.ensures c.if-not-has.true (λ a. a i m) in
    (absent, λ i m. c.requires SupportSize (absent, λ a. a i m))

pub block-requires-clause-place : goal.block-requires-clause-place
block-requires-clause-place c = λ a. c.requires SupportPlace (a, c.has.ensures.0 c.if-not-has.false)
