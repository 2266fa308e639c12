use Rattle.std.proofs.Common.{◌≡◌, ◌+◌, length}
use Rattle.std.specs.Iterator.Adapters.{take_source, take_count}
use Rattle.header.specs.Entries.{lines_of}
use Rattle.header.specs.Lines.{most_lines}
use Rattle.header.proofs.Reading.{Read}
use Rattle.header.proofs.entries.Entries.read.Given as goal

abbrev pub invariant-loop-line : goal.invariant-loop-line
invariant-loop-line l = (take_count l.line-iterator + length l.self.all.items ≡ most_lines) × Read l.head (lines_of l.self) l.self.end (take_source l.line-iterator).rest.now
