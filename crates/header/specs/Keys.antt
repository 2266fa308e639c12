-- The keys of a header and the numbers that they name.
use Rattle.std.specs.Prelude.{◌≡◌, ℕ, ◌-◌, ◌<◌, ◌≤◌, List, map, length, Some, None, codes, Option}
use Rattle.std.specs.Int.Digits.{number_from_digits}
use Rattle.shelf.specs.declared.refusal.Refusal.{Refusal}
use Rattle.shelf.specs.Refusals.{Says}
use Rattle.shelf.specs.Refusals.Place.{key}
use Rattle.header.specs.Bytes.{AllIn}
use Rattle.header.specs.Lines.{HeaderLine, Holds, Absent}
use Rattle.header.specs.declared.extent.Extent.{Extent}
use Rattle.header.specs.declared.text.Class.TheVariants.{Digit}
use Rattle.header.specs.declared.keys.Key.{Key}
use Rattle.header.specs.declared.keys.Key.TheVariants.{XmlSize, XmlPlace, SupportSize, SupportPlace, PvpSize, PvpPlace, SignalSize, SignalPlace, Classification, ReleaseInfo}

-- the values of the keys with codes up to this one are numbers
abbrev pub last_number : ℕ
last_number = 8

-- a number has at most this many digits
abbrev pub most_digits : ℕ
most_digits = 18

-- the code by which a refusal names the key
abbrev pub code : Key → ℕ
code XmlSize = 1
code XmlPlace = 2
code SupportSize = 3
code SupportPlace = 4
code PvpSize = 5
code PvpPlace = 6
code SignalSize = 7
code SignalPlace = 8
code Classification = 9
code ReleaseInfo = 10

-- the key as the header writes it
abbrev pub name : Key → List ℕ
name XmlSize = codes "XML_BLOCK_SIZE"
name XmlPlace = codes "XML_BLOCK_BYTE_OFFSET"
name SupportSize = codes "SUPPORT_BLOCK_SIZE"
name SupportPlace = codes "SUPPORT_BLOCK_BYTE_OFFSET"
name PvpSize = codes "PVP_BLOCK_SIZE"
name PvpPlace = codes "PVP_BLOCK_BYTE_OFFSET"
name SignalSize = codes "SIGNAL_BLOCK_SIZE"
name SignalPlace = codes "SIGNAL_BLOCK_BYTE_OFFSET"
name Classification = codes "CLASSIFICATION"
name ReleaseInfo = codes "RELEASE_INFO"

-- the key that this one comes with, where the two may be left out together
abbrev pub twin : Key → Option Key
twin XmlSize = None
twin XmlPlace = None
twin SupportSize = Some SupportPlace
twin SupportPlace = Some SupportSize
twin PvpSize = None
twin PvpPlace = None
twin SignalSize = None
twin SignalPlace = None
twin Classification = None
twin ReleaseInfo = None

-- a line has the key
abbrev pub Present : List HeaderLine → Key → Type 0
Present ls k = Absent ls (name k) → ⊥

-- a key with this twin may not be left out: it has none, or the twin is there
abbrev pub Required : List HeaderLine → Option Key → Type 0
Required ls None = Unit {0}
Required ls (Some other) = Present ls other

-- the key is missing: no line has it, and it may not be left out
abbrev pub Missing : List HeaderLine → Key → Type 0
Missing ls k = Absent ls (name k) × Required ls (twin k)

-- no key is missing
abbrev pub Complete : List HeaderLine → Type 0
Complete ls = (k : Key) → Missing ls k → ⊥

-- the refusal of a header with a missing key: 13 with the lowest code of one
pub record MissingRefused (ls : List HeaderLine) (e : Refusal) : Type 0 where
  pub k : Key
  pub says : Says e 13 key (code k)
  pub missing : Missing ls k
  pub first : (o : Key) → code o < code k → Missing ls o → ⊥

-- 1 to 18 digits
pub record Numeral (text : List ℕ) : Type 0 where
  pub some : 0 < length text
  pub short : length text ≤ most_digits
  pub digits : AllIn Digit text

-- the number that digits write
abbrev pub amount : List ℕ → ℕ
amount text = number_from_digits 10 (map (λ b. b - 48) text)

-- the key has a value that writes the number n
pub record HasNumber (ls : List HeaderLine) (k : Key) (n : ℕ) : Type 0 where
  pub text : List ℕ
  pub holds : Holds ls (name k) text
  pub numeral : Numeral text
  pub is : n ≡ amount text

-- the key has a value that is not 1 to 18 digits
pub record NotNumber (ls : List HeaderLine) (k : Key) : Type 0 where
  pub text : List ℕ
  pub holds : Holds ls (name k) text
  pub wrong : Numeral text → ⊥

-- the refusal of a key whose value is not a number
abbrev pub NumberRefused : List HeaderLine → Key → Refusal → Type 0
NumberRefused ls k e = Says e 14 key (code k) × NotNumber ls k

-- the refusal of a header with such a key, of those that must name numbers: 14 with the lowest code of one
pub record NumbersRefused (ls : List HeaderLine) (e : Refusal) : Type 0 where
  pub k : Key
  pub says : Says e 14 key (code k)
  pub among : code k ≤ last_number
  pub not_number : NotNumber ls k
  pub first : (o : Key) → code o < code k → NotNumber ls o → ⊥

-- the two keys name the size and the place of the block
pub record Block (ls : List HeaderLine) (size place : Key) (x : Extent) : Type 0 where
  pub has_size : HasNumber ls size x.size
  pub has_place : HasNumber ls place x.place

-- the refusal of a block's keys: the size comes before the place
pub data BlockRefused (ls : List HeaderLine) (size place : Key) (e : Refusal) : Type 0 where
  no_size : NumberRefused ls size e → BlockRefused ls size place e
  no_place : (n : ℕ) → HasNumber ls size n → NumberRefused ls place e → BlockRefused ls size place e

-- the two keys of the support block are absent where there is none, and else say where it stands
abbrev pub Support : List HeaderLine → Option Extent → Type 0
Support ls None = Absent ls (name SupportSize) × Absent ls (name SupportPlace)
Support ls (Some x) = Block ls SupportSize SupportPlace x
