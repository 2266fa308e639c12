-- The lines of a header, as they stand in the file's first bytes.
use Rattle.std.specs.Prelude.{◌≡◌, ℕ, ◌+◌, ◌<◌, ◌≤◌, List, [], ◌∷◌, ◌++◌, length, drop, slice_index_or}
use Rattle.shelf.specs.declared.refusal.Refusal.{Refusal}
use Rattle.shelf.specs.Refusals.{Says}
use Rattle.shelf.specs.Refusals.Place.{nothing, line}
use Rattle.header.specs.Bytes.{AllIn}
use Rattle.header.specs.declared.text.Class.TheVariants.{Key, Value}
use Rattle.header.specs.declared.extent.Extent.{Extent}

-- a header has at most this many bytes, its end included
abbrev pub header_limit : ℕ
header_limit = 4096

-- a header has at most this many lines
abbrev pub most_lines : ℕ
most_lines = 32

-- where the first line starts: behind the file type
abbrev pub lines_start : ℕ
lines_start = 11

-- bs begins with xs
abbrev pub Begins : List ℕ → List ℕ → Type 0
Begins bs xs = (rest : List ℕ) × (bs ≡ xs ++ rest)

-- what a file begins with: "CPHD/1.1.0" and a line feed
abbrev pub file_type : List ℕ
file_type = 67 ∷ 80 ∷ 72 ∷ 68 ∷ 47 ∷ 49 ∷ 46 ∷ 49 ∷ 46 ∷ 48 ∷ 10 ∷ []

-- what ends the header, and the XML block: the bytes 0C 0A
abbrev pub terminator : List ℕ
terminator = 12 ∷ 10 ∷ []

-- a line as it is written: the key, " := ", the value and a line feed
abbrev pub written : List ℕ → List ℕ → List ℕ
written key value = key ++ (32 ∷ 58 ∷ 61 ∷ 32 ∷ (value ++ (10 ∷ [])))

-- bs begins with the line of this key and this value
pub record LineIs (bs key value : List ℕ) : Type 0 where
  pub some_key : 0 < length key
  pub key_bytes : AllIn Key key
  pub some_value : 0 < length value
  pub value_bytes : AllIn Value value
  pub stands : Begins bs (written key value)

-- bs begins with no line
abbrev pub NoLine : List ℕ → Type 0
NoLine bs = (key value : List ℕ) → LineIs bs key value → ⊥

-- bs begins with the line of this key and this value, and with no other line; the rest follows
pub record OnlyLine (bs key value rest : List ℕ) : Type 0 where
  pub is : LineIs bs key value
  pub whole : bs ≡ written key value ++ rest
  pub only : (k v : List ℕ) → LineIs bs k v → (k ≡ key) × (v ≡ value)

-- a line of the header: where it starts in the file, its key and its value
pub record HeaderLine : Type 0 where
  pub place : ℕ
  pub key : List ℕ
  pub value : List ℕ

-- how many bytes the line has
abbrev pub line_size : HeaderLine → ℕ
line_size l = length (written l.key l.value)

-- the lines ls stand in bs one behind the other, from the place p up to the place q
abbrev pub Follow : List ℕ → ℕ → List HeaderLine → ℕ → Type 0
Follow bs p [] q = p ≡ q
Follow bs p (l ∷ ls) q = (l.place ≡ p) × LineIs (drop p bs) l.key l.value × Follow bs (p + line_size l) ls q

-- head, the file's first bytes up to the header's limit, begins with a header of the lines ls, whose terminator stands at `end`
pub record HeaderText (head : List ℕ) (ls : List HeaderLine) (end : ℕ) : Type 0 where
  pub begins : Begins head file_type
  pub lines : Follow head lines_start ls end
  pub few : length ls ≤ most_lines
  pub ends : Begins (drop end head) terminator

-- lawful lines lead to the place p, and there stands neither the terminator nor a lawful line that is not one too many
pub record Malformed (head : List ℕ) (p : ℕ) : Type 0 where
  pub before : List HeaderLine
  pub begins : Begins head file_type
  pub lines : Follow head lines_start before p
  pub few : length before ≤ most_lines
  pub no_end : Begins (drop p head) terminator → ⊥
  pub no_line : length before < most_lines → NoLine (drop p head)

-- why head has no lines: its first bytes, or a line
pub data LinesRefused (head : List ℕ) (e : Refusal) : Type 0 where
  other_type : Says e 10 nothing 0 → (Begins head file_type → ⊥) → LinesRefused head e
  malformed : (p : ℕ) → Says e 11 line p → Malformed head p → LinesRefused head e

-- the line of number i, from 0
abbrev pub line_at : List HeaderLine → ℕ → HeaderLine
line_at ls i = slice_index_or ls i (record { place = 0; key = []; value = [] })

-- the key of line j stood before
abbrev pub Repeats : List HeaderLine → ℕ → Type 0
Repeats ls j = (i : ℕ) × (i < j) × ((line_at ls i).key ≡ (line_at ls j).key)

-- no key stands twice
abbrev pub Distinct : List HeaderLine → Type 0
Distinct ls = (j : ℕ) → j < length ls → Repeats ls j → ⊥

-- a line that starts at p has a key that stood before
abbrev pub RepeatedAt : List HeaderLine → ℕ → Type 0
RepeatedAt ls p = (j : ℕ) × (j < length ls) × ((line_at ls j).place ≡ p) × Repeats ls j

-- the refusal of lines with a repeated key: 12 with the place of line j, the first whose key stood before
pub record RepeatedRefused (ls : List HeaderLine) (e : Refusal) : Type 0 where
  pub j : ℕ
  pub within : j < length ls
  pub says : Says e 12 line (line_at ls j).place
  pub repeats : Repeats ls j
  pub first : (k : ℕ) → k < j → Repeats ls k → ⊥

-- line i has this key
pub record Named (ls : List HeaderLine) (name : List ℕ) (i : ℕ) : Type 0 where
  pub within : i < length ls
  pub named : (line_at ls i).key ≡ name

-- no line has this key
abbrev pub Absent : List HeaderLine → List ℕ → Type 0
Absent ls name = (i : ℕ) → Named ls name i → ⊥

-- a line of this key is l
pub record LineOf (ls : List HeaderLine) (name : List ℕ) (l : HeaderLine) : Type 0 where
  pub i : ℕ
  pub line : Named ls name i
  pub is : line_at ls i ≡ l

-- a line of this key has this value
pub record Holds (ls : List HeaderLine) (name value : List ℕ) : Type 0 where
  pub l : HeaderLine
  pub line : LineOf ls name l
  pub holds : l.value ≡ value

-- the value of a line of this key stands in the file where the extent says
pub record Stands (ls : List HeaderLine) (name : List ℕ) (x : Extent) : Type 0 where
  pub l : HeaderLine
  pub line : LineOf ls name l
  pub place : x.place ≡ l.place + length l.key + 4
  pub size : x.size ≡ length l.value
