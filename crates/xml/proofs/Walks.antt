-- The walk over child elements, as laws of the grammar.
use Rattle.std.proofs.Common.{◌≡◌, ℕ, ◌+◌, ◌≤◌, true, false, ◌⊎◌, List, [], ◌∷◌, length, ◌<◌, Some, None, Option, IfSome, sym, refl, ap, ◌∙◌, subst, inl, inr, ⊎_elim, arith}
use Rattle.std.specs.Option.{option_map}
use Rattle.std.proofs.lemmas.Bool.{both_ways}
use Rattle.xml.specs.declared.walk.Child.{Child}
use Rattle.xml.specs.Bytes.{AllOf, text_byte}
use Rattle.xml.specs.Grammar.{most_depth, Entity, entity_text, comment_text, Tree, empty, full, Content, nothing, byte, reference, comment, child, tree_text, content_text, GoodTree, GoodContent}
use Rattle.xml.specs.Ahead.{at_text, at_reference, at_comment, at_other, ahead, Stops}
use Rattle.xml.specs.Walks.{name_of, content_of, children, plain, Holds, ElementIs, FirstChild, NoChild, OnlyFirst, FirstAndRest, FirstAnswer, FirstOf, TextAnswer}
use Rattle.xml.specs.Reads.{Ends, Missing}
use Rattle.xml.specs.Forms.{SkipForm}
use Rattle.xml.specs.Elements.{ElementAnswer}
use Rattle.xml.proofs.Steps.{tails, no_cons, cases_none}
use Rattle.xml.proofs.Shapes.{shape_at, text_ahead, entity_ahead, tree_opens, tree_ahead, tree_stops}
use Rattle.xml.proofs.Unique.{entity_unique, comment_unique, tree_unique}
use Rattle.xml.proofs.Texts.{content_deeper}
use Rattle.xml.proofs.Contents.{no_tree, skip_within}
use Rattle.xml.proofs.Elements.{element_forward}

-- a content without depth has no children
flat_children : (c : Content) → GoodContent c 0 → children c ≡ []
flat_children nothing g = refl
flat_children (byte b c) g = flat_children c g.1
flat_children (reference e c) g = flat_children c g
flat_children (comment body c) g = flat_children c g.1
flat_children (child t c) g = absurd (no_tree t g.0)

-- the content of a good element is good
pub inner_good : (t : Tree) (d : ℕ) → d ≤ most_depth → GoodTree t d → GoodContent (content_of t) most_depth
inner_good (empty t) d h g = tt
inner_good (full t c s) d h g = content_deeper c _ most_depth (omega (arith, h)) g.2

-- what is shown of a good element by its name and the text of its content
pub element_is : (t : Tree) → GoodTree t most_depth → (name inner : List ℕ) → name ≡ name_of t → inner ≡ content_text (content_of t) [] → ElementIs t name inner
element_is t g name inner n i = record { named = n; holds = record { good = inner_good t most_depth (omega arith) g; is = i } }

-- c, in front of `end`, and f, in front of an element, are the same text, and f has no children
module _ (t : Tree) (e : ℕ) (gt : GoodTree t e) (rest end : List ℕ) (stop : Stops (ahead end)) (d : ℕ) where
  -- the element is c's first child, or it begins behind c
  abbrev Met : Content → Type 0
  Met c = ((k : Content) × (children c ≡ t ∷ children k) × GoodContent k d × (content_text k end ≡ rest)) ⊎ ((children c ≡ []) × (end ≡ tree_text t rest))

  met_at : (c k : Content) → children c ≡ children k → Met k → Met c
  met_at c k s m = ⊎_elim (λ p. inl (p.0, s ∙ p.1, p.2, p.3)) (λ p. inr (s ∙ p.0, p.1)) m

  pub meet : (f c : Content) → GoodContent f 0 → GoodContent c d → content_text c end ≡ content_text f (tree_text t rest) → Met c
  meet nothing c g h i = ⊎_elim none some (shape_at c d h end (tree_text t rest) at_other stop (sym i) (tree_ahead t e gt rest))
    where
      none : c ≡ nothing → Met c
      none p = inr (ap children p, ap (λ x. content_text x end) (sym p) ∙ i)

      some : (u : Tree) × (k : Content) × (c ≡ child u k) → Met c
      some p =
          let q : GoodContent (child p.0 p.1) d = subst (λ x. GoodContent x d) p.2 h in
          let same = tree_unique p.0 t d e q.0 gt (content_text p.1 end) rest (ap (λ x. content_text x end) (sym p.2) ∙ i) in
          inl (p.1, ap children p.2 ∙ ap (λ u. u ∷ children p.1) same.0, q.1, same.1)
  meet (byte b f) c g h i =
      let s = shape_at c d h end (b ∷ content_text f (tree_text t rest)) at_text stop (sym i) (text_ahead b (content_text f (tree_text t rest)) g.0) in
      let q : GoodContent (byte s.0 s.1) d = subst (λ x. GoodContent x d) s.2 h in
      met_at c s.1 (ap children s.2) (meet f s.1 g.1 q.1 (tails (ap (λ x. content_text x end) (sym s.2) ∙ i)))
  meet (reference n f) c g h i =
      let s = shape_at c d h end (entity_text n (content_text f (tree_text t rest))) at_reference stop (sym i) (entity_ahead n (content_text f (tree_text t rest))) in
      let q : GoodContent (reference s.0 s.1) d = subst (λ x. GoodContent x d) s.2 h in
      met_at c s.1 (ap children s.2) (meet f s.1 g q (entity_unique s.0 n _ _ (ap (λ x. content_text x end) (sym s.2) ∙ i)).1)
  meet (comment body f) c g h i =
      let s = shape_at c d h end (comment_text body (content_text f (tree_text t rest))) at_comment stop (sym i) refl in
      let q : GoodContent (comment s.0 s.1) d = subst (λ x. GoodContent x d) s.2 h in
      met_at c s.1 (ap children s.2) (meet f s.1 g.1 q.1 (comment_unique s.0 body _ _ q.0 g.0 (ap (λ x. content_text x end) (sym s.2) ∙ i)).1)
  meet (child u f) c g h i = absurd (no_tree u g.0)

-- an element's text is not empty
no_text : (t : Tree) (d : ℕ) → GoodTree t d → (rest : List ℕ) → [] ≡ tree_text t rest → ⊥
no_text t d g rest e = no_cons (e ∙ (tree_opens t d g rest).1)

-- the bytes begin with at most one such element
pub first_only : (bytes name inner rest n i r : List ℕ) → FirstChild bytes name inner rest → FirstChild bytes n i r → (n ≡ name) × (i ≡ inner) × (r ≡ rest)
first_only bytes name inner rest n i r p q =
    ⊎_elim
    (λ m. absurd (no_kids q.before p.tree m.0 (flat_children q.before q.flat) m.1))
    (λ m.
    let same = tree_unique q.tree p.tree most_depth most_depth q.good p.good r rest m.1 in
    (q.shows.named ∙ ap name_of same.0 ∙ sym p.shows.named, q.shows.holds.is ∙ ap (λ t. content_text (content_of t) []) same.0 ∙ sym p.shows.holds.is, same.1))
    (meet p.tree most_depth p.good rest (tree_text q.tree r) (tree_stops q.tree most_depth q.good r) 0 p.before q.before p.flat q.flat (sym q.is ∙ p.is))
  where
    no_kids : (c : Content) (t : Tree) (k : Content) → children c ≡ [] → children c ≡ t ∷ children k → ⊥
    no_kids c t k a b = cc

-- a content that has children begins with its first one
pub first_of : (c : Content) → GoodContent c most_depth → (children c ≡ []) ⊎ ((n i r : List ℕ) × FirstChild (content_text c []) n i r)
first_of nothing g = inl refl
first_of (byte b c) g =
    ⊎_elim inl
    (λ p. inr (p.0, p.1, p.2, record { before = byte b p.3.before; flat = (g.0, p.3.flat); tree = p.3.tree; good = p.3.good; is = ap (λ l. b ∷ l) p.3.is; shows = p.3.shows }))
    (first_of c g.1)
first_of (reference e c) g =
    ⊎_elim inl
    (λ p. inr (p.0, p.1, p.2, record { before = reference e p.3.before; flat = p.3.flat; tree = p.3.tree; good = p.3.good; is = ap (entity_text e) p.3.is; shows = p.3.shows }))
    (first_of c g)
first_of (comment body c) g =
    ⊎_elim inl
    (λ p. inr (p.0, p.1, p.2, record { before = comment body p.3.before; flat = (g.0, p.3.flat); tree = p.3.tree; good = p.3.good; is = ap (comment_text body) p.3.is; shows = p.3.shows }))
    (first_of c g.1)
first_of (child t c) g = inr (name_of t, content_text (content_of t) [], content_text c [], record { before = nothing; flat = tt; tree = t; good = g.0; is = refl; shows = element_is t g.0 _ _ refl refl })

-- where no child begins, a content has none
pub none_left : (bytes : List ℕ) (c : Content) → Holds bytes c → NoChild bytes → children c ≡ []
none_left bytes c h n = ⊎_elim (λ e. e) (λ p. absurd (n p.0 p.1 p.2 (subst (λ b. FirstChild b p.0 p.1 p.2) (sym h.is) p.3))) (first_of c h.good)

-- where one begins, it is the content's first, and the rest is the content behind it
pub first_part : (bytes name inner rest : List ℕ) (c : Content) → Holds bytes c → FirstChild bytes name inner rest → FirstAndRest c name inner rest
first_part bytes name inner rest c h p =
    ⊎_elim
    (λ m. record { first = p.tree; behind = m.0; are = m.1; shows = p.shows; follows = record { good = m.2; is = sym m.3 } })
    (λ m. absurd (no_text p.tree most_depth p.good rest m.1))
    (meet p.tree most_depth p.good rest [] tt most_depth p.before c p.flat h.good (sym h.is ∙ p.is))

-- what is answered of any bytes tells what is answered of a content
pub walk_law : (bytes : List ℕ) (r : Option Child) → FirstAnswer bytes r → (c : Content) → Holds bytes c → FirstOf c r
walk_law bytes None a c h = none_left bytes c h a
walk_law bytes (Some k) a c h = first_part bytes k.element.name.now k.element.content.now k.rest.now c h a.is

-- no element begins where nothing can be skipped
pub no_skip : (bytes : List ℕ) (r : Option Child) → r ≡ None → Missing SkipForm bytes → FirstAnswer bytes r
no_skip bytes r e m = cases_none r (NoChild bytes) (λ k. OnlyFirst bytes k.element.name.now k.element.content.now k.rest.now) e (λ name inner rest p. m _ (skipped name inner rest p))
  where
    skipped : (name inner rest : List ℕ) (p : FirstChild bytes name inner rest) → SkipForm bytes (tree_text p.tree rest)
    skipped name inner rest p = record { tree = p.before; good = p.flat; is = p.is; stops = tree_stops p.tree most_depth p.good rest }

-- the first child is the element that stands behind what is skipped
pub child_answer : (bytes start : List ℕ) (r : Option Child) → Ends SkipForm bytes start → ElementAnswer most_depth start r → FirstAnswer bytes r
child_answer bytes start None e m = λ name inner rest p.
    let same = e.only _ (record { tree = p.before; good = p.flat; is = p.is; stops = tree_stops p.tree most_depth p.good rest }) in
    m rest (record { tree = p.tree; good = p.good; is = sym same })
child_answer bytes start (Some k) e s =
    let t = e.is in
    let shows = element_is s.tree s.good k.element.name.now k.element.content.now s.named s.holds in
    let is : FirstChild bytes k.element.name.now k.element.content.now k.rest.now = record { before = t.tree; flat = t.good; tree = s.tree; good = s.good; is = t.is ∙ ap (content_text t.tree) s.is; shows = shows } in
    record { is = is; only = λ n i r q. first_only bytes k.element.name.now k.element.content.now k.rest.now n i r is q }

-- what follows it is shorter, also with the child's content
pub child_forward : (bytes start : List ℕ) (r : Option Child) → SkipForm bytes start → ElementAnswer most_depth start r → IfSome r (λ k. length k.element.content.now + length k.rest.now < length bytes)
child_forward bytes start None s h = tt
child_forward bytes start (Some k) s h = omega (arith, skip_within bytes start s, element_forward most_depth start _ _ _ h)

told_more : (b : ℕ) (bytes : List ℕ) → text_byte b ≡ true → (o : Option (List ℕ)) → TextAnswer bytes o → TextAnswer (b ∷ bytes) (option_map (λ bs. b ∷ bs) o)
told_more b bytes t None h = λ a. h a.1
told_more b bytes t (Some bs) h = (ap (λ l. b ∷ l) h.0, (t, h.1))

no_entity : (e : Entity) (rest : List ℕ) → AllOf text_byte (entity_text e rest) → ⊥
no_entity e rest a = both_ways false refl a.0

no_tree_text : (t : Tree) (rest : List ℕ) → AllOf text_byte (tree_text t rest) → ⊥
no_tree_text (empty t) rest a = both_ways false refl a.0
no_tree_text (full t c s) rest a = both_ways false refl a.0

-- a content is plain text when its bytes are text, and else not
pub told : (c : Content) (d : ℕ) → GoodContent c d → TextAnswer (content_text c []) (plain c)
told nothing d g = (refl, tt)
told (byte b c) d g = told_more b (content_text c []) g.0 (plain c) (told c d g.1)
told (reference e c) d g = no_entity e (content_text c [])
told (comment body c) d g = λ a. both_ways false refl a.0
told (child t c) d g = no_tree_text t (content_text c [])

-- what is answered of any bytes is answered of a content
pub text_law : (bytes : List ℕ) (r : Option (List ℕ)) → TextAnswer bytes r → (c : Content) → Holds bytes c → r ≡ plain c
text_law bytes r a c h = same r (plain c) a (subst (λ b. TextAnswer b (plain c)) (sym h.is) (told c most_depth h.good))
  where
    same : (r o : Option (List ℕ)) → TextAnswer bytes r → TextAnswer bytes o → r ≡ o
    same None None a b = refl
    same None (Some t) a b = absurd (a b.1)
    same (Some t) None a b = absurd (b a.1)
    same (Some t) (Some u) a b = ap Some (a.0 ∙ sym b.0)
