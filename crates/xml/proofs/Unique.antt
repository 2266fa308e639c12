-- No text has two trees.
-- Each lemma `..-unique` says that a text is that of one such thing only, and so is what follows it.
use Rattle.std.proofs.Common.{◌≡◌, ℕ, ◌-◌, Bool, true, false, cond, eqb, ◌⊎◌, List, [], ◌∷◌, ◌++◌, get_or, codes, sym, refl, ap, ◌∙◌, subst, inl, ⊎_elim, arith}
use Rattle.std.specs.List.{AllByRecursion}
use Rattle.std.proofs.lemmas.List.{append_cancel_left, append_cancel_right}
use Rattle.std.proofs.lemmas.Bool.{both_ways}
use Rattle.xml.specs.Bytes.{AllOf, white, name_start_byte, name_byte, attribute_byte, value_byte, tag_end}
use Rattle.xml.specs.Grammar.{most_depth, IsName, Attribute, attribute_text, GoodAttribute, attributes_text, Tag, tag_text, GoodTag, Entity, lt, gt, amp, quot, apos, entity_text, NoPair, comment_text, GoodComment, Tree, empty, full, Content, nothing, byte, reference, comment, child, tree_text, content_text, GoodTree, GoodContent, Misc, done, space, note, misc_text, GoodMisc, Declaration, absent, present, declaration_text, GoodDeclaration, OneTree}
use Rattle.xml.specs.Ahead.{Next, at_text, at_reference, at_comment, at_end_tag, at_end, at_other, ahead, Stops}
use Rattle.xml.specs.Reads.{begins, Begins}
use Rattle.xml.proofs.Steps.{tails, heads, run_unique}
use Rattle.xml.proofs.Forms.{quoted_stops}
use Rattle.xml.proofs.Tags.{start_not_white, end_not_white, end_not_name, start_not_end, white_not, begins_not, begins_name, past_white, begins_gap, begins_quote, sign}
use Rattle.xml.proofs.Comments.{no_pair_tail, pair_here}
use Rattle.xml.proofs.Shapes.{text_ahead, white_ahead, entity_ahead, tree_opens, tree_ahead, tree_stops, Shape, shape_at}

-- a name is its own
pub name_unique : (p : ℕ → Bool) (v w ys zs : List ℕ) → IsName p v → IsName p w → begins p ys ≡ false → begins p zs ≡ false → v ++ ys ≡ w ++ zs → (v ≡ w) × (ys ≡ zs)
name_unique p [] w ys zs g h c d e = absurd g
name_unique p (x ∷ v) [] ys zs g h c d e = absurd h
name_unique p (x ∷ v) (y ∷ w) ys zs g h c d e = let q = run_unique p v w ys zs g.1 h.1 c d (tails e) in ((λ i. heads e i ∷ q.0 i), q.1)

-- a value between its quotes
pub value_unique : (q r : ℕ) (v w xs ys : List ℕ) → AllOf (value_byte q) v → AllOf (value_byte r) w → q ∷ (v ++ (q ∷ xs)) ≡ r ∷ (w ++ (r ∷ ys)) → (q ≡ r) × (v ≡ w) × (xs ≡ ys)
value_unique q r v w xs ys g h e =
    let s = heads e in
    let o = run_unique (value_byte q) v w (q ∷ xs) (r ∷ ys) g (subst (λ z. AllOf (value_byte z) w) (sym s) h) (quoted_stops q xs) (subst (λ z. begins (value_byte z) (r ∷ ys) ≡ false) (sym s) (quoted_stops r ys)) (tails e) in
    (s, o.0, tails o.1)

-- behind an attribute's gap its name starts
name_starts : (a : Attribute) → GoodAttribute a → (rest : List ℕ) → begins name_start_byte (a.name ++ sign a rest) ≡ true
name_starts a g rest = begins_name attribute_byte a.name (sign a rest) g.name

-- and so its gap ends there
gap_stops : (a : Attribute) → GoodAttribute a → (rest : List ℕ) → begins white (a.name ++ sign a rest) ≡ false
gap_stops a g rest = begins_not name_start_byte white start_not_white (a.name ++ sign a rest) (name_starts a g rest)

-- its name ends where the white space or the `=` begins
name_stops : (a : Attribute) → GoodAttribute a → (rest : List ℕ) → begins attribute_byte (sign a rest) ≡ false
name_stops a g rest = past_white attribute_byte (white_not attribute_byte refl refl refl refl) a.before _ g.before refl

-- an attribute
pub attribute_unique : (a b : Attribute) → GoodAttribute a → GoodAttribute b → (xs ys : List ℕ) → attribute_text a xs ≡ attribute_text b ys → (a ≡ b) × (xs ≡ ys)
attribute_unique a b g h xs ys e =
    let gap = run_unique white a.gap b.gap _ _ g.gap h.gap (gap_stops a g xs) (gap_stops b h ys) e in
    let name = name_unique attribute_byte a.name b.name _ _ g.name h.name (name_stops a g xs) (name_stops b h ys) gap.1 in
    let before = run_unique white a.before b.before _ _ g.before h.before refl refl name.1 in
    let after = run_unique white a.after b.after _ _ g.after h.after (begins_quote a.quote [] g.quote) (begins_quote b.quote [] h.quote) (tails before.1) in
    let value = value_unique a.quote b.quote a.value b.value xs ys g.value h.value after.1 in
    ((λ i. record { gap = gap.0 i; name = name.0 i; before = before.0 i; after = after.0 i; quote = value.0 i; value = value.1 i }), value.2)

-- no attribute stands where a tag ends
no_attribute : (v xs : List ℕ) → AllOf white v → begins tag_end xs ≡ true → (a : Attribute) → GoodAttribute a → (rest : List ℕ) → v ++ xs ≡ attribute_text a rest → ⊥
no_attribute v xs w t a g rest e =
    let same = run_unique white v a.gap xs (a.name ++ sign a rest) w g.gap (begins_not tag_end white end_not_white xs t) (gap_stops a g rest) e in
    both_ways _ (begins_not name_start_byte tag_end start_not_end xs (ap (begins name_start_byte) same.1 ∙ name_starts a g rest)) t

-- attributes, with the white space behind them
module _ (v w xs ys : List ℕ) (wide : AllOf white v) (broad : AllOf white w) (ends : begins tag_end xs ≡ true) (closes : begins tag_end ys ≡ true) where
  pub attributes_unique : (as' bs : List Attribute) → AllByRecursion GoodAttribute as' → AllByRecursion GoodAttribute bs → attributes_text as' (v ++ xs) ≡ attributes_text bs (w ++ ys) → (as' ≡ bs) × (v ≡ w) × (xs ≡ ys)
  attributes_unique [] [] g h e = let q = run_unique white v w xs ys wide broad (begins_not tag_end white end_not_white xs ends) (begins_not tag_end white end_not_white ys closes) e in (refl, q.0, q.1)
  attributes_unique [] (b ∷ bs) g h e = absurd (no_attribute v xs wide ends b h.0 _ e)
  attributes_unique (a ∷ as') [] g h e = absurd (no_attribute w ys broad closes a g.0 _ (sym e))
  attributes_unique (a ∷ as') (b ∷ bs) g h e =
      let one = attribute_unique a b g.0 h.0 _ _ e in
      let more = attributes_unique as' bs g.1 h.1 one.1 in
      ((λ i. one.0 i ∷ more.0 i), more.1, more.2)

-- a tag's name ends where its attributes begin
pub tag_stops : (t : Tag) → GoodTag t → (rest : List ℕ) → begins tag_end rest ≡ true → begins name_byte (attributes_text t.attributes (t.space ++ rest)) ≡ false
tag_stops t g rest s = go t.attributes g.attributes
  where
    white_not_name : (b : ℕ) → white b ≡ true → name_byte b ≡ false
    white_not_name = white_not name_byte refl refl refl refl

    go : (as' : List Attribute) → AllByRecursion GoodAttribute as' → begins name_byte (attributes_text as' (t.space ++ rest)) ≡ false
    go [] a = past_white name_byte white_not_name t.space rest g.space (begins_not tag_end name_byte end_not_name rest s)
    go (x ∷ more) a =
        let last = attributes_text more (t.space ++ rest) in
        begins_not white name_byte white_not_name (attribute_text x last) (begins_gap x.gap (x.name ++ sign x last) a.0.apart a.0.gap)

-- a tag
pub tag_unique : (t u : Tag) → GoodTag t → GoodTag u → (xs ys : List ℕ) → begins tag_end xs ≡ true → begins tag_end ys ≡ true → tag_text t xs ≡ tag_text u ys → (t ≡ u) × (xs ≡ ys)
tag_unique t u g h xs ys a b e =
    let name = name_unique name_byte t.name u.name _ _ g.name h.name (tag_stops t g xs a) (tag_stops u h ys b) e in
    let more = attributes_unique t.space u.space xs ys g.space h.space a b t.attributes u.attributes g.attributes h.attributes name.1 in
    ((λ i. record { name = name.0 i; attributes = more.0 i; space = more.1 i }), more.2)

-- the reference that a text begins with, as the two bytes behind the `&` tell
abbrev entity_of : List ℕ → Entity
entity_of xs = cond (eqb (get_or xs 1 0) 108) lt (cond (eqb (get_or xs 1 0) 103) gt (cond (eqb (get_or xs 1 0) 113) quot (cond (eqb (get_or xs 2 0) 109) amp apos)))

-- it is the one whose text that is
entity_told : (e : Entity) (rest : List ℕ) → entity_of (entity_text e rest) ≡ e
entity_told lt rest = refl
entity_told gt rest = refl
entity_told amp rest = refl
entity_told quot rest = refl
entity_told apos rest = refl

-- a reference
pub entity_unique : (d e : Entity) (xs ys : List ℕ) → entity_text d xs ≡ entity_text e ys → (d ≡ e) × (xs ≡ ys)
entity_unique d e xs ys p = let same = sym (entity_told d xs) ∙ ap entity_of p ∙ entity_told e ys in (same, cancel d (p ∙ ap (λ z. entity_text z ys) (sym same)))
  where
    cancel : (e : Entity) → entity_text e xs ≡ entity_text e ys → xs ≡ ys
    cancel lt p = cc
    cancel gt p = cc
    cancel amp p = cc
    cancel quot p = cc
    cancel apos p = cc

-- what stands before the first a that stands right before a b, and what stands behind the two
pub pair_unique : (a b : ℕ) (v w xs ys : List ℕ) → NoPair a b (v ++ a ∷ []) → NoPair a b (w ++ a ∷ []) → v ++ (a ∷ b ∷ xs) ≡ w ++ (a ∷ b ∷ ys) → (v ≡ w) × (xs ≡ ys)
pair_unique a b v w xs ys g h e = let same = go v w g h e in (append_cancel_right v w (a ∷ b ∷ xs) (e ∙ ap (λ l. w ++ (a ∷ b ∷ l)) same), sym same)
  where
    go : (v w : List ℕ) → NoPair a b (v ++ a ∷ []) → NoPair a b (w ++ a ∷ []) → v ++ (a ∷ b ∷ xs) ≡ w ++ (a ∷ b ∷ ys) → ys ≡ xs
    go [] w g h e = pair_here a b (a ∷ b ∷ xs) ys xs refl (record { body = w; first = h; is = e })
    go (c ∷ v) [] g h e = sym (pair_here a b (a ∷ b ∷ ys) xs ys refl (record { body = c ∷ v; first = g; is = sym e }))
    go (c ∷ v) (d ∷ w) g h e = go v w (no_pair_tail a b c (v ++ a ∷ []) g) (no_pair_tail a b d (w ++ a ∷ []) h) (tails e)

-- a comment
pub comment_unique : (v w xs ys : List ℕ) → GoodComment v → GoodComment w → comment_text v xs ≡ comment_text w ys → (v ≡ w) × (xs ≡ ys)
comment_unique v w xs ys g h e = let q = pair_unique 45 45 v w (62 ∷ xs) (62 ∷ ys) g h (tails (tails (tails (tails e)))) in (q.0, tails q.1)

-- a content ends: an end tag follows, or nothing
abbrev pub Ended : List ℕ → Type 0
Ended xs = (ahead xs ≡ at_end_tag) ⊎ (ahead xs ≡ at_end)

-- where it does, no piece begins
pub ended_stops : (xs : List ℕ) → Ended xs → Stops (ahead xs)
ended_stops xs s = ⊎_elim (λ l. subst Stops (sym l) tt) (λ l. subst Stops (sym l) tt) s

-- a content whose text begins where a content ends is nothing
pub nothing_at : (k : Content) (d : ℕ) → GoodContent k d → (rest xs : List ℕ) → Ended rest → xs ≡ content_text k rest → Ended xs → k ≡ nothing
nothing_at k d g rest xs s e t = ⊎_elim (at at_end_tag) (at at_end) t
  where
    at : (l : Next) → ahead xs ≡ l → Shape k l
    at l = shape_at k d g rest xs l (ended_stops rest s) e

-- a content that begins with neither text, reference nor comment, and does not end, begins with an element
pub child_at : (k : Content) (d : ℕ) → GoodContent k d → (rest xs : List ℕ) → Ended rest → xs ≡ content_text k rest → ahead xs ≡ at_other → (u : Tree) × (m : Content) × (k ≡ child u m)
child_at k d g rest xs s e l = ⊎_elim (λ n. absurd (no n)) (λ c. c) (shape_at k d g rest xs at_other (ended_stops rest s) e l)
  where
    no : k ≡ nothing → ⊥
    no n =
        let same : ahead rest ≡ at_other = ap (λ z. ahead (content_text z rest)) (sym n) ∙ sym (ap ahead e) ∙ l in
        ⊎_elim (λ m. cc) (λ m. cc) s

-- xs is the text of the content c, and then ys
abbrev Stands : ℕ → List ℕ → List ℕ → Content → Type 0
Stands d xs ys c = GoodContent c d × (xs ≡ content_text c ys)

-- an element, and a content that ends
mutual
  pub tree_unique : (t u : Tree) (d e : ℕ) → GoodTree t d → GoodTree u e → (xs ys : List ℕ) → tree_text t xs ≡ tree_text u ys → (t ≡ u) × (xs ≡ ys)
  tree_unique (empty t) (empty u) d e g h xs ys p = let tag = tag_unique t u g.1 h.1 _ _ refl refl (tails p) in (ap empty tag.0, tails (tails tag.1))
  tree_unique (empty t) (full u k r) d e g h xs ys p = let tag = tag_unique t u g.1 h.1 _ _ refl refl (tails p) in absurd (omega (arith, heads tag.1))
  tree_unique (full t c s) (empty u) d e g h xs ys p = let tag = tag_unique t u g.1 h.1 _ _ refl refl (tails p) in absurd (omega (arith, heads tag.1))
  tree_unique (full t c s) (full u k r) d e g h xs ys p =
      let tag = tag_unique t u g.1 h.1 _ _ refl refl (tails p) in
      let held = content_unique c k (d - 1) (e - 1) g.2 h.2 _ _ (inl refl) (inl refl) (tails tag.1) in
      let closed = append_cancel_left t.name _ _ (tails (tails held.1) ∙ ap (λ z. z.name ++ (r ++ (62 ∷ ys))) (sym tag.0)) in
      let last = run_unique white s r (62 ∷ xs) (62 ∷ ys) g.3 h.3 refl refl closed in
      ((λ i. full (tag.0 i) (held.0 i) (last.0 i)), tails last.1)

  pub content_unique : (c k : Content) (d e : ℕ) → GoodContent c d → GoodContent k e → (xs ys : List ℕ) → Ended xs → Ended ys → content_text c xs ≡ content_text k ys → (c ≡ k) × (xs ≡ ys)
  content_unique nothing k d e g h xs ys s t p =
      let is = nothing_at k e h ys xs t p s in
      (sym is, p ∙ ap (λ z. content_text z ys) is)
  content_unique (byte b c) k d e g h xs ys s t p =
      let is = shape_at k e h ys _ at_text (ended_stops ys t) p (text_ahead b (content_text c xs) g.0) in
      let on = subst (Stands e (content_text (byte b c) xs) ys) is.2 (h, p) in
      let more = content_unique c is.1 d e g.1 on.0.1 xs ys s t (tails on.1) in
      ((λ i. byte (heads on.1 i) (more.0 i)) ∙ sym is.2, more.1)
  content_unique (reference n c) k d e g h xs ys s t p =
      let is = shape_at k e h ys _ at_reference (ended_stops ys t) p (entity_ahead n (content_text c xs)) in
      let on = subst (Stands e (content_text (reference n c) xs) ys) is.2 (h, p) in
      let one = entity_unique n is.0 _ _ on.1 in
      let more = content_unique c is.1 d e g on.0 xs ys s t one.1 in
      ((λ i. reference (one.0 i) (more.0 i)) ∙ sym is.2, more.1)
  content_unique (comment body c) k d e g h xs ys s t p =
      let is = shape_at k e h ys _ at_comment (ended_stops ys t) p refl in
      let on = subst (Stands e (content_text (comment body c) xs) ys) is.2 (h, p) in
      let one = comment_unique body is.0 _ _ g.0 on.0.0 on.1 in
      let more = content_unique c is.1 d e g.1 on.0.1 xs ys s t one.1 in
      ((λ i. comment (one.0 i) (more.0 i)) ∙ sym is.2, more.1)
  content_unique (child u c) k d e g h xs ys s t p =
      let is = child_at k e h ys _ t p (tree_ahead u d g.0 (content_text c xs)) in
      let on = subst (Stands e (content_text (child u c) xs) ys) is.2 (h, p) in
      let one = tree_unique u is.0 d e g.0 on.0.0 _ _ on.1 in
      let more = content_unique c is.1 d e g.1 on.0.1 xs ys s t one.1 in
      ((λ i. child (one.0 i) (more.0 i)) ∙ sym is.2, more.1)

-- white space and comments, where neither follows
module _ (xs ys : List ℕ) (ends : Stops (ahead xs)) (stops : Stops (ahead ys)) where
  pub misc_unique : (m k : Misc) → GoodMisc m → GoodMisc k → misc_text m xs ≡ misc_text k ys → (m ≡ k) × (xs ≡ ys)
  misc_unique done done g h p = (refl, p)
  misc_unique done (space b k) g h p = absurd (subst Stops (ap ahead p ∙ white_ahead b (misc_text k ys) h.0) ends)
  misc_unique done (note w k) g h p = absurd (subst Stops (ap ahead p) ends)
  misc_unique (space a m) done g h p = absurd (subst Stops (ap ahead (sym p) ∙ white_ahead a (misc_text m xs) g.0) stops)
  misc_unique (space a m) (space b k) g h p = let more = misc_unique m k g.1 h.1 (tails p) in ((λ i. space (heads p i) (more.0 i)), more.1)
  misc_unique (space a m) (note w k) g h p = absurd (both_ways (white a) (ap white (heads p)) g.0)
  misc_unique (note v m) done g h p = absurd (subst Stops (ap ahead (sym p)) stops)
  misc_unique (note v m) (space b k) g h p = absurd (both_ways (white b) (ap white (sym (heads p))) h.0)
  misc_unique (note v m) (note w k) g h p =
      let one = comment_unique v w _ _ g.0 h.0 p in
      let more = misc_unique m k g.1 h.1 one.1 in
      ((λ i. note (one.0 i) (more.0 i)), more.1)

-- a declaration, where none follows
pub declaration_unique : (d k : Declaration) → GoodDeclaration d → GoodDeclaration k → (xs ys : List ℕ) → (Begins (codes "<?xml") xs → ⊥) → (Begins (codes "<?xml") ys → ⊥) → declaration_text d xs ≡ declaration_text k ys → (d ≡ k) × (xs ≡ ys)
declaration_unique absent absent g h xs ys s t p = (refl, p)
declaration_unique absent (present w) g h xs ys s t p = absurd (s (_, p))
declaration_unique (present v) absent g h xs ys s t p = absurd (t (_, sym p))
declaration_unique (present v) (present w) g h xs ys s t p = let q = pair_unique 63 62 v w xs ys g h (append_cancel_left (codes "<?xml") _ _ p) in (ap present q.0, q.1)

-- no declaration stands before the root
pub undeclared : (m : Misc) → GoodMisc m → (t : Tree) (d : ℕ) → GoodTree t d → (rest : List ℕ) → Begins (codes "<?xml") (misc_text m (tree_text t rest)) → ⊥
undeclared done g t d h rest b =
    let o = tree_opens t d h rest in
    both_ways _ (ap (begins name_start_byte) (tails (sym o.1 ∙ b.1))) o.2
undeclared (space a m) g t d h rest b = both_ways (white a) (ap white (heads b.1)) g.0
undeclared (note v m) g t d h rest b = omega (arith, heads (tails b.1))

-- a document
pub document_unique : (text : List ℕ) → OneTree text
document_unique text d k g h p q =
    let head = declaration_unique d.head k.head g.head h.head _ _ (undeclared d.before g.before d.root most_depth g.root _) (undeclared k.before h.before k.root most_depth h.root _) (sym p ∙ q) in
    let before = misc_unique _ _ (tree_stops d.root most_depth g.root (misc_text d.after [])) (tree_stops k.root most_depth h.root (misc_text k.after [])) d.before k.before g.before h.before head.1 in
    let root = tree_unique d.root k.root most_depth most_depth g.root h.root _ _ before.1 in
    let after = misc_unique [] [] tt tt d.after k.after g.after h.after root.1 in
    λ i. record { head = head.0 i; before = before.0 i; root = root.0 i; after = after.0 i }
