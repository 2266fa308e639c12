-- The walk over the children of a content.
use Rattle.std.specs.Prelude.{◌≡◌, ℕ, ◌+◌, ◌<◌, List, [], ◌∷◌, length, Option, IfSome, MatchOption}
use Rattle.std.specs.Iterator.{Drains}
use Rattle.xml.specs.declared.siblings.Children.{Children}
use Rattle.xml.specs.declared.walk.Element.{Element}
use Rattle.xml.specs.Grammar.{Tree, Content}
use Rattle.xml.specs.Walks.{children, Holds, ElementIs, NoChild, OnlyFirst, FirstAndRest}

-- a step of the walk, which leaves the rest: what `first_child` says of the bytes, and of each content that they are; at the end they stay
pub record Step (bytes : List ℕ) (r : Option Element) (rest : List ℕ) : Type 0 where
  pub answer : MatchOption r (NoChild bytes × (rest ≡ bytes)) (λ e. OnlyFirst bytes e.name.now e.content.now rest)
  pub walk : (c : Content) → Holds bytes c → MatchOption r (children c ≡ []) (λ e. FirstAndRest c e.name.now e.content.now rest)
  pub forward : IfSome r (λ e. length e.content.now + length rest < length bytes)

-- the same of the iterator
abbrev pub walk_steps : Children → Option Element → Children → Type 0
walk_steps s r t = Step s.rest.now r t.rest.now

-- the elements are those trees, one for one
abbrev pub AreElements : List Element → List Tree → Type 0
AreElements [] [] = Unit {0}
AreElements [] (t ∷ ts) = ⊥
AreElements (e ∷ es) [] = ⊥
AreElements (e ∷ es) (t ∷ ts) = ElementIs t e.name.now e.content.now × AreElements es ts

-- the walk from s, taken to its end, gives the children of c
abbrev pub WalksChildren : Children → Content → Type 0
WalksChildren s c = (es : List Element) → Drains walk_steps s es → AreElements es (children c)
