-- The numbers of a header are small.
use Rattle.std.proofs.Common.{◌≡◌, ℕ, ◌-◌, ◌^◌, ◌<◌, min, List, Some, None, Option, arith}
use Rattle.header.specs.declared.extent.Extent.{Extent}
use Rattle.header.specs.declared.header.Header.{Header}
use Rattle.header.specs.declared.keys.Key.{Key}
use Rattle.header.specs.declared.keys.Key.TheVariants.{XmlSize, XmlPlace, SupportSize, SupportPlace, PvpSize, PvpPlace, SignalSize, SignalPlace}
use Rattle.header.specs.Lines.{HeaderLine}
use Rattle.header.specs.Extents.{ends, SmallExtent}
use Rattle.header.specs.Keys.{HasNumber, Block, Support}
use Rattle.header.specs.Headers.{Stated, Small, SmallSupport}
use Rattle.header.proofs.Amounts.{amount_below}

small_says : (ls : List HeaderLine) (k : Key) (n : ℕ) → HasNumber ls k n → n < 10 ^ 18
small_says ls k n s = rw s.is (amount_below s.text s.numeral)

small_block : (ls : List HeaderLine) (s p : Key) (x : Extent) → Block ls s p x → SmallExtent x
small_block ls s p x b = (small_says ls p _ b.has_place, small_says ls s _ b.has_size)

small_support : (ls : List HeaderLine) (o : Option Extent) → Support ls o → SmallSupport o
small_support ls None s = tt
small_support ls (Some b) s = small_block ls SupportSize SupportPlace b s

pub small_from : (head : List ℕ) (h : Header) → Stated head h → Small h
small_from head h s = record {
  xml = small_block s.ls XmlSize XmlPlace h.xml s.xml;
  support = small_support s.ls h.support s.support;
  pvp = small_block s.ls PvpSize PvpPlace h.pvp s.pvp;
  signal = small_block s.ls SignalSize SignalPlace h.signal s.signal;
}

-- where a small extent ends fits the type
pub end_fits : (x : Extent) → SmallExtent x → min (ends x) (2 ^ 64 - 1) ≡ ends x
end_fits x s = omega (arith, s.0, s.1)
