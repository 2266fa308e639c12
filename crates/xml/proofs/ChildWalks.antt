-- The walk over the children of a content.
use Rattle.std.proofs.Common.{◌≡◌, suc, None, List, [], ◌∷◌, length, sym, refl, ap, subst}
use Rattle.std.specs.Iterator.{Drains}
use Rattle.xml.specs.declared.siblings.Children.{Children}
use Rattle.xml.specs.declared.walk.Element.{Element}
use Rattle.xml.specs.Grammar.{Tree, Content}
use Rattle.xml.specs.Walks.{children, Holds}
use Rattle.xml.specs.Children.{walk_steps, AreElements}

-- step by step the elements are the children, and then there are no more
pub walk_children : (es : List Element) (s : Children) (c : Content) → Holds s.rest.now c → Drains walk_steps s es → AreElements es (children c)
walk_children [] s c h d =
    let last = subst (λ t. walk_steps t None d.0) (sym d.1.1) d.1.2 in
    subst (AreElements []) (sym (last.walk c h)) tt
walk_children (e ∷ es) s c h d =
    let step = d.1.1 in
    let p = step.1.walk c h in
    subst (AreElements (e ∷ es)) (sym p.are) (p.shows, walk_children es step.0 p.behind p.follows (d.0, (d.1.0, step.2, d.1.2)))

-- there are as many of the one as of the other
pub AreElements-length : (es : List Element) (ts : List Tree) → AreElements es ts → length es ≡ length ts
AreElements-length [] [] a = refl
AreElements-length [] (t ∷ ts) a = absurd a
AreElements-length (e ∷ es) [] a = absurd a
AreElements-length (e ∷ es) (t ∷ ts) a = ap suc (AreElements-length es ts a.1)
