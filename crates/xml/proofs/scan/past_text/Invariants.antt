use Rattle.std.proofs.Common.{ℕ, List, length}
use Rattle.xml.specs.Bytes.{text_byte}
use Rattle.xml.specs.Reads.{Span}
use Rattle.xml.proofs.scan.past_text.Given as goal

abbrev pub invariant-loop-block : goal.invariant-loop-block
invariant-loop-block l = (ys : List ℕ) → Span text_byte l.left ys → Span text_byte l.text ys

abbrev pub decreases-loop-block : goal.decreases-loop-block
decreases-loop-block l = length l.left
