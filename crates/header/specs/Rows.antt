-- When a file's header is lawful, and when it is refused, with which number and place.
-- Of the refusals that apply the lowest number is answered, and within a number the lowest code or the earliest line.
use Rattle.std.specs.Prelude.{◌≡◌, ℕ, ◌<◌, ◌≤◌, cond, ◌⊎◌, List, length, take, drop, Result, MatchResult, ◌==◌}
use Rattle.shelf.specs.declared.refusal.Refusal.{Refusal}
use Rattle.shelf.specs.Refusals.{Says, number}
use Rattle.shelf.specs.Refusals.Place.{nothing, line, key, block}
use Rattle.header.specs.declared.header.Header.{Header}
use Rattle.header.specs.declared.keys.Key.{Key}
use Rattle.header.specs.declared.keys.Key.TheVariants.{XmlSize}
use Rattle.header.specs.Lines.{HeaderLine, Begins, HeaderText, Malformed, RepeatedAt, file_type, terminator, header_limit}
use Rattle.header.specs.Keys.{code, last_number, Missing, NotNumber}
use Rattle.header.specs.Headers.{Stated, InOrder, Misplaced, block_order}
use Rattle.header.specs.Extents.{ends}

-- the first bytes of the file, in which its header lies
abbrev pub front : List ℕ → List ℕ
front file = take header_limit file

-- the terminator stands behind the XML block
abbrev pub Terminated : List ℕ → Header → Type 0
Terminated file h = Begins (drop (ends h.xml) file) terminator

-- the file's header is lawful and states h
pub record LawfulHeader (file : List ℕ) (h : Header) : Type 0 where
  pub stated : Stated (front file) h
  pub ordered : InOrder h (length file)
  pub terminated : Terminated file h

-- a rule is broken, and this is its refusal
pub data Row (file : List ℕ) (e : Refusal) : Type 0 where
  -- the first bytes are not the file type
  other_type : Says e 10 nothing 0 → (Begins (front file) file_type → ⊥) → Row file e
  -- a line is malformed, one too many, or unfinished
  malformed : (p : ℕ) → Says e 11 line p → Malformed (front file) p → Row file e
  -- a line's key stood before
  repeated : (p : ℕ) → Says e 12 line p → (ls : List HeaderLine) (at : ℕ) → HeaderText (front file) ls at → RepeatedAt ls p → Row file e
  -- a key is missing
  missing : (k : Key) → Says e 13 key (code k) → (ls : List HeaderLine) (at : ℕ) → HeaderText (front file) ls at → Missing ls k → Row file e
  -- a value is not 1 to 18 digits
  not_number : (k : Key) → Says e 14 key (code k) → (ls : List HeaderLine) (at : ℕ) → HeaderText (front file) ls at → code k ≤ last_number → NotNumber ls k → Row file e
  -- a block starts too early, or the last does not end with the file
  misplaced : (p : ℕ) → Says e 15 block p → (h : Header) → Stated (front file) h → Misplaced h (length file) p → Row file e
  -- the XML block has no terminator
  unterminated : Says e 15 block (code XmlSize) → (h : Header) → Stated (front file) h → (Terminated file h → ⊥) → Row file e

-- within a number the lower place comes first, but 15 has its own order
abbrev pub place_order : ℕ → ℕ → ℕ
place_order n p = cond (n == 15) (block_order p) p

-- f comes before e
abbrev pub Before : Refusal → Refusal → Type 0
Before f e = (number f.reason < number e.reason) ⊎ ((number f.reason ≡ number e.reason) × (place_order (number e.reason) f.place < place_order (number e.reason) e.place))

-- e is the first refusal that applies
pub record Refused (file : List ℕ) (e : Refusal) : Type 0 where
  pub applies : Row file e
  pub first : (f : Refusal) → Before f e → Row file f → ⊥

-- what `head` answers of a file
abbrev pub Answer : List ℕ → Result Header Refusal → Type 0
Answer file r = MatchResult r (LawfulHeader file) (Refused file)
