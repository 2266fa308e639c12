-- What a header states, and whether its blocks stand in order.
use Rattle.std.specs.Prelude.{◌≡◌, ℕ, ◌+◌, ◌<◌, ◌≤◌, cond, List, Some, None, Option, ◌==◌, ◌≢◌}
use Rattle.shelf.specs.declared.refusal.Refusal.{Refusal}
use Rattle.header.specs.declared.extent.Extent.{Extent}
use Rattle.header.specs.declared.header.Header.{Header}
use Rattle.header.specs.declared.keys.Key.TheVariants.{XmlSize, XmlPlace, SupportPlace, PvpSize, PvpPlace, SignalSize, SignalPlace, Classification, ReleaseInfo}
use Rattle.header.specs.Lines.{HeaderLine, HeaderText, LinesRefused, Distinct, RepeatedRefused, Stands}
use Rattle.header.specs.Keys.{name, code, Block, Support, Complete, MissingRefused, NumbersRefused}
use Rattle.header.specs.Extents.{ends, SmallExtent}

-- head, the file's first bytes up to the header's limit, begins with a header that states h
pub record Stated (head : List ℕ) (h : Header) : Type 0 where
  pub ls : List HeaderLine
  pub at : ℕ
  pub text : HeaderText head ls at
  pub distinct : Distinct ls
  pub end : h.end ≡ at + 2
  pub xml : Block ls XmlSize XmlPlace h.xml
  pub support : Support ls h.support
  pub pvp : Block ls PvpSize PvpPlace h.pvp
  pub signal : Block ls SignalSize SignalPlace h.signal
  pub classification : Stands ls (name Classification) h.classification
  pub release : Stands ls (name ReleaseInfo) h.release_info

-- why head states no header, by the first stage that fails: the lines, repeated keys, missing keys, numbers
pub data NotStated (head : List ℕ) (e : Refusal) : Type 0 where
  lines : LinesRefused head e → NotStated head e
  repeated : (ls : List HeaderLine) (at : ℕ) → HeaderText head ls at → RepeatedRefused ls e → NotStated head e
  missing : (ls : List HeaderLine) (at : ℕ) → HeaderText head ls at → Distinct ls → MissingRefused ls e → NotStated head e
  not_number : (ls : List HeaderLine) (at : ℕ) → HeaderText head ls at → Distinct ls → Complete ls → NumbersRefused ls e → NotStated head e

-- the terminator behind the XML block belongs to its end
abbrev pub xml_end : Header → ℕ
xml_end h = ends h.xml + 2

-- the end of the block, or n where there is none
abbrev pub end_or : ℕ → Option Extent → ℕ
end_or n None = n
end_or n (Some x) = ends x

-- the end of what stands before the PVP block
abbrev pub support_end : Header → ℕ
support_end h = end_or (xml_end h) h.support

-- there is a support block, and it starts before n
abbrev pub Early : Option Extent → ℕ → Type 0
Early None n = ⊥
Early (Some x) n = x.place < n

-- the blocks stand one behind the other, and the last ends with a file of len bytes
pub record InOrder (h : Header) (len : ℕ) : Type 0 where
  pub xml : h.end ≤ h.xml.place
  pub support : Early h.support (xml_end h) → ⊥
  pub pvp : support_end h ≤ h.pvp.place
  pub signal : ends h.pvp ≤ h.signal.place
  pub whole : ends h.signal ≡ len

-- a block stands where it may not; p is the code that the refusal names: of its offset, or of the signal block's size
pub data Misplaced (h : Header) (len p : ℕ) : Type 0 where
  xml_early : p ≡ code XmlPlace → h.xml.place < h.end → Misplaced h len p
  support_early : p ≡ code SupportPlace → Early h.support (xml_end h) → Misplaced h len p
  pvp_early : p ≡ code PvpPlace → h.pvp.place < support_end h → Misplaced h len p
  signal_early : p ≡ code SignalPlace → h.signal.place < ends h.pvp → Misplaced h len p
  not_whole : p ≡ code SignalSize → (ends h.signal ≢ len) → Misplaced h len p

-- the codes of misplaced blocks come in the order 2, 4, 6, 8, 7, 1
abbrev pub block_order : ℕ → ℕ
block_order p = cond (p == code SignalSize) 9 (cond (p == code XmlSize) 10 p)

-- p is the first of these codes that applies
pub record FirstMisplaced (h : Header) (len p : ℕ) : Type 0 where
  pub misplaced : Misplaced h len p
  pub first : (o : ℕ) → block_order o < block_order p → Misplaced h len o → ⊥

-- place and size of a support block, if there is one, have at most 18 digits
abbrev pub SmallSupport : Option Extent → Type 0
SmallSupport None = Unit {0}
SmallSupport (Some x) = SmallExtent x

-- and so have those of every block
pub record Small (h : Header) : Type 0 where
  pub xml : SmallExtent h.xml
  pub support : SmallSupport h.support
  pub pvp : SmallExtent h.pvp
  pub signal : SmallExtent h.signal
