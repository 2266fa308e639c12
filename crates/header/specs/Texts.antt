-- The lines at the front of a text, one after another.
use Rattle.std.specs.Prelude.{◌≡◌, Some, None, Option}
use Rattle.header.specs.declared.text.Line.{Line}
use Rattle.header.specs.declared.lines.Lines.{Lines}
use Rattle.header.specs.Lines.{OnlyLine, NoLine}

-- a step gives the line that stands at the front of the rest, and leaves what follows it; where none stands there it gives
-- nothing, and leaves the rest
abbrev pub NextLine : Lines → Option Line → Lines → Type 0
NextLine s None t = NoLine s.rest.now × (t.rest.now ≡ s.rest.now)
NextLine s (Some l) t = OnlyLine s.rest.now l.key.now l.value.now l.rest.now × (t.rest.now ≡ l.rest.now)
