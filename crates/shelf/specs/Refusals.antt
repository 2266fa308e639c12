-- The refusals: the number that each reason stands for, and what the place beside it tells.
use Rattle.std.specs.Prelude.{◌≡◌, ℕ}
use Rattle.shelf.specs.declared.refusal.Reason.{Reason}
use Rattle.shelf.specs.declared.refusal.Reason.TheVariants.{StampNotAbove, OverCapacity, PastEnd, NotCphd, LineMalformed, KeyRepeated, KeyMissing, KeyNotNumber, BlockMisplaced, WorkTooShort, XmlMalformed, FieldMalformed, LimitBroken, ParameterBroken, ArrayMisplaced, OrderCount, NamesAbsent, SlotUnknown, SlotEmpty, PlanStale, OutputTooShort}
use Rattle.shelf.specs.declared.refusal.Refusal.{Refusal}

-- what the place of a refusal tells
pub data Place : Type 0 where
  shelf_stamp : Place  -- the stamp that the shelf has
  shelf_capacity : Place  -- the most bytes that the shelf takes
  byte_length : Place  -- how many bytes there are to read or view
  nothing : Place  -- always 0
  line : Place  -- where the header's line starts in the file
  key : Place  -- the key's code, 1 to 10
  block : Place  -- the code of the key that places or sizes the block, or 1 for the XML block's end
  xml : Place  -- the size of the XML block
  field : Place  -- the field's code, 0 to 7
  parameter : Place  -- the code of the parameter that is named
  channel : Place  -- the channel, from 1
  orders : Place  -- how many orders the sheet has
  order : Place  -- the order, from 0; 0 for a view
  slot : Place  -- the slot that the call names
  needed : Place  -- how many bytes the output must hold

-- the number of each reason, and what its place tells
abbrev pub row : Reason → ℕ × Place
row StampNotAbove = (1, shelf_stamp)
row OverCapacity = (2, shelf_capacity)
row PastEnd = (3, byte_length)
row NotCphd = (10, nothing)
row LineMalformed = (11, line)
row KeyRepeated = (12, line)
row KeyMissing = (13, key)
row KeyNotNumber = (14, key)
row BlockMisplaced = (15, block)
row WorkTooShort = (20, xml)
row XmlMalformed = (21, nothing)
row FieldMalformed = (22, field)
row LimitBroken = (30, field)
row ParameterBroken = (31, parameter)
row ArrayMisplaced = (32, channel)
row OrderCount = (40, orders)
row NamesAbsent = (41, order)
row SlotUnknown = (50, slot)
row SlotEmpty = (51, slot)
row PlanStale = (52, shelf_stamp)
row OutputTooShort = (53, needed)

-- the number alone
abbrev pub number : Reason → ℕ
number r = (row r).0

-- e is the refusal of number n, and its place, which tells a `kind`, is p
pub record Says (e : Refusal) (n : ℕ) (kind : Place) (p : ℕ) : Type 0 where
  pub reason : row e.reason ≡ (n, kind)
  pub place : e.place ≡ p
