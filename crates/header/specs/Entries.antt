-- What the entries of a header stand for.
use Rattle.std.specs.Prelude.{List, map}
use Rattle.header.specs.declared.entries.Entry.{Entry}
use Rattle.header.specs.declared.entries.Entries.{Entries}
use Rattle.header.specs.Lines.{HeaderLine}

-- the line that an entry was read from
abbrev pub line_of : Entry → HeaderLine
line_of e = record { place = e.place; key = e.key.now; value = e.value.now }

-- the lines of the header
abbrev pub lines_of : Entries → List HeaderLine
lines_of t = map line_of t.all.items
