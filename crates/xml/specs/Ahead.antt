-- What a piece of content begins with.
use Rattle.std.specs.Prelude.{ℕ, cond, List, [], ◌∷◌, ◌==◌}
use Rattle.xml.specs.Bytes.{text_byte}

-- what may come next; an element, or nothing of the grammar, is the last
pub data Next : Type 0 where
  at_text : Next
  at_reference : Next
  at_comment : Next
  at_end_tag : Next
  at_end : Next
  at_other : Next

-- what stands behind a `<` tells: an end tag has `/` there, a comment `!`
abbrev pub markup : List ℕ → Next
markup [] = at_other
markup (b ∷ bs) = cond (b == 47) at_end_tag (cond (b == 33) at_comment at_other)

-- what comes next, as the first two bytes of a list tell
abbrev pub ahead : List ℕ → Next
ahead [] = at_end
ahead (b ∷ bs) = cond (text_byte b) at_text (cond (b == 38) at_reference (cond (b == 60) (markup bs) at_other))

-- no text, reference or comment begins
abbrev pub Stops : Next → Type 0
Stops at_text = ⊥
Stops at_reference = ⊥
Stops at_comment = ⊥
Stops at_end_tag = Unit {0}
Stops at_end = Unit {0}
Stops at_other = Unit {0}
