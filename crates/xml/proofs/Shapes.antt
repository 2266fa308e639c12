-- How the pieces of a content begin, and what lies ahead in its text.
use Rattle.std.proofs.Common.{◌≡◌, ℕ, true, false, eqb, ◌⊎◌, List, [], ◌∷◌, sym, refl, ap, ◌∙◌, subst, inl, inr, arith}
use Rattle.xml.specs.Bytes.{white, name_start_byte, name_byte, text_byte}
use Rattle.xml.specs.Grammar.{Entity, entity_text, Tree, empty, full, Content, nothing, byte, reference, comment, child, tree_text, content_text, GoodTree, GoodContent}
use Rattle.xml.specs.Ahead.{Next, at_text, at_reference, at_comment, at_end_tag, at_end, at_other, markup, ahead, Stops}
use Rattle.xml.specs.Reads.{begins}
use Rattle.xml.proofs.Tags.{begins_name}

-- how a content begins, by what lies ahead
abbrev pub Shape : Content → Next → Type 0
Shape c at_text = (b : ℕ) × (k : Content) × (c ≡ byte b k)
Shape c at_reference = (e : Entity) × (k : Content) × (c ≡ reference e k)
Shape c at_comment = (body : List ℕ) × (k : Content) × (c ≡ comment body k)
Shape c at_end_tag = c ≡ nothing
Shape c at_end = c ≡ nothing
Shape c at_other = (c ≡ nothing) ⊎ ((t : Tree) × (k : Content) × (c ≡ child t k))

-- a byte of text: text lies ahead
pub text_ahead : (b : ℕ) (rest : List ℕ) → text_byte b ≡ true → ahead (b ∷ rest) ≡ at_text
text_ahead b rest h = rw h

-- white space: the same
pub white_ahead : (b : ℕ) (rest : List ℕ) → white b ≡ true → ahead (b ∷ rest) ≡ at_text
white_ahead b rest h = let t : text_byte b ≡ true = grind arith in text_ahead b rest t

-- a reference: it lies ahead
pub entity_ahead : (e : Entity) (rest : List ℕ) → ahead (entity_text e rest) ≡ at_reference
entity_ahead e rest = refl

-- no name starts with `/` or `!`
pub name_markup : (xs : List ℕ) → begins name_start_byte xs ≡ true → markup xs ≡ at_other
name_markup [] h = refl
name_markup (b ∷ xs) h =
    let no_end : eqb b 47 ≡ false = grind arith in
    let no_comment : eqb b 33 ≡ false = grind arith in
    rw (no_end, no_comment)

-- behind the `<` of an element its name starts
pub tree_opens : (t : Tree) (d : ℕ) → GoodTree t d → (rest : List ℕ) → (zs : List ℕ) × (tree_text t rest ≡ 60 ∷ zs) × (begins name_start_byte zs ≡ true)
tree_opens (empty t) d g rest = (_, refl, begins_name name_byte t.name _ g.1.name)
tree_opens (full t c s) d g rest = (_, refl, begins_name name_byte t.name _ g.1.name)

-- an element: neither text, reference, comment nor end tag lies ahead
pub tree_ahead : (t : Tree) (d : ℕ) → GoodTree t d → (rest : List ℕ) → ahead (tree_text t rest) ≡ at_other
tree_ahead t d g rest = let o = tree_opens t d g rest in ap ahead o.1 ∙ name_markup o.0 o.2

-- no text, reference or comment begins where an element does
pub tree_stops : (t : Tree) (d : ℕ) → GoodTree t d → (rest : List ℕ) → Stops (ahead (tree_text t rest))
tree_stops t d g rest = subst Stops (sym (tree_ahead t d g rest)) tt

-- a content begins as what lies ahead in its text says
pub shape : (c : Content) (d : ℕ) → GoodContent c d → (rest : List ℕ) → Stops (ahead rest) → Shape c (ahead (content_text c rest))
shape nothing d g rest s = go (ahead rest) s
  where
    go : (l : Next) → Stops l → Shape nothing l
    go at_text s = absurd s
    go at_reference s = absurd s
    go at_comment s = absurd s
    go at_end_tag s = refl
    go at_end s = refl
    go at_other s = inl refl
shape (byte b k) d g rest s = subst (Shape (byte b k)) (sym (text_ahead b (content_text k rest) g.0)) (b, k, refl)
shape (reference e k) d g rest s = subst (Shape (reference e k)) (sym (entity_ahead e (content_text k rest))) (e, k, refl)
shape (comment body k) d g rest s = (body, k, refl)
shape (child t k) d g rest s = subst (Shape (child t k)) (sym (tree_ahead t d g.0 (content_text k rest))) (inr (t, k, refl))

-- the same, of a list that is the content's text
pub shape_at : (c : Content) (d : ℕ) → GoodContent c d → (rest xs : List ℕ) (l : Next) → Stops (ahead rest) → xs ≡ content_text c rest → ahead xs ≡ l → Shape c l
shape_at c d g rest xs l s e h = subst (Shape c) (sym (ap ahead e) ∙ h) (shape c d g rest s)
