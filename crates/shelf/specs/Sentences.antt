-- What a refusal is printed as.
use Rattle.std.specs.Prelude.{ℕ, List, ◌++◌, codes, decimal}
use Rattle.shelf.specs.declared.refusal.Reason.{Reason}
use Rattle.shelf.specs.declared.refusal.Reason.TheVariants.{StampNotAbove, OverCapacity, PastEnd, NotCphd, LineMalformed, KeyRepeated, KeyMissing, KeyNotNumber, BlockMisplaced, WorkTooShort, XmlMalformed, FieldMalformed, LimitBroken, ParameterBroken, ArrayMisplaced, OrderCount, NamesAbsent, SlotUnknown, SlotEmpty, PlanStale, OutputTooShort}
use Rattle.shelf.specs.declared.refusal.Refusal.{Refusal}
use Rattle.shelf.specs.Refusals.{number}

-- what is wrong, and what the place tells
abbrev pub sentence : Reason → List ℕ
sentence StampNotAbove = codes "the stamp given is not above the shelf's stamp, which is the place"
sentence OverCapacity = codes "the bytes given are more than the shelf's capacity, which is the place"
sentence PastEnd = codes "the bytes asked for reach past the end; the place is the length"
sentence NotCphd = codes "the file does not begin with CPHD/1.1.0 and a line feed"
sentence LineMalformed = codes "the header line at the place is malformed, the 33rd, or not finished in the first 4,096 bytes"
sentence KeyRepeated = codes "the key of the header line at the place stood before"
sentence KeyMissing = codes "the header lacks the key whose code is the place"
sentence KeyNotNumber = codes "the value of the key whose code is the place is not 1 to 18 digits"
sentence BlockMisplaced = codes "a block starts too early (2, 4, 6 or 8), the signal block does not end with the file (7), or the closing bytes of the XML block are missing (1)"
sentence WorkTooShort = codes "the working buffer is shorter than the XML block, whose size is the place"
sentence XmlMalformed = codes "the XML block breaks the grammar"
sentence FieldMalformed = codes "the root (0) or the field whose code is the place is wrong, missing, repeated, not plain text or no number"
sentence LimitBroken = codes "the field whose code is the place breaks its limit"
sentence ParameterBroken = codes "the parameter whose code is the place is absent, of wrong size, format or name, outside the set, or shares a word or a name"
sentence ArrayMisplaced = codes "an array of the channel that is the place leaves its block or overlaps"
sentence OrderCount = codes "the sheet has no orders, or more than 32; the place is how many"
sentence NamesAbsent = codes "what is named is absent; the place is the order, counted from 0, and 0 for a view"
sentence SlotUnknown = codes "there is no slot of the number that is the place"
sentence SlotEmpty = codes "the slot that is the place is empty"
sentence PlanStale = codes "the plan was compiled under another stamp than the shelf's, which is the place"
sentence OutputTooShort = codes "the output is shorter than the bytes to hand out; the place is how many they are"

-- number, place and sentence
abbrev pub shown : Refusal → List ℕ
shown e = codes "refused " ++ (decimal (number e.reason) ++ (codes " " ++ (decimal e.place ++ (codes ": " ++ sentence e.reason))))
