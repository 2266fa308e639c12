-- What follows a text may come in two parts, and a tree may stand where a deeper one may.
use Rattle.std.proofs.Common.{◌≡◌, ℕ, ◌+◌, ◌-◌, ◌≤◌, List, [], ◌∷◌, ◌++◌, length, refl, ap, ◌∙◌, append_assoc, arith, length-append}
use Rattle.xml.specs.Grammar.{Attribute, attribute_text, attributes_text, Tag, tag_text, Entity, entity_text, comment_text, Tree, empty, full, Content, nothing, byte, reference, comment, child, tree_text, content_text, GoodTree, GoodContent}

-- an attribute's text, and then xs and ys
attribute_append : (a : Attribute) (xs ys : List ℕ) → attribute_text a (xs ++ ys) ≡ attribute_text a xs ++ ys
attribute_append a xs ys = simp append_assoc

-- attributes
attributes_append : (as' : List Attribute) (xs ys : List ℕ) → attributes_text as' (xs ++ ys) ≡ attributes_text as' xs ++ ys
attributes_append [] xs ys = refl
attributes_append (a ∷ as') xs ys = ap (attribute_text a) (attributes_append as' xs ys) ∙ attribute_append a (attributes_text as' xs) ys

-- a tag
tag_append : (t : Tag) (xs ys : List ℕ) → tag_text t (xs ++ ys) ≡ tag_text t xs ++ ys
tag_append t xs ys = simp (append_assoc, ← attributes_append)

pub length-tag : (t : Tag) (xs : List ℕ) → length (tag_text t xs) ≡ length (tag_text t []) + length xs
length-tag t xs = ap length (tag_append t [] xs) ∙ length-append (tag_text t []) xs

-- a reference
entity_append : (e : Entity) (xs ys : List ℕ) → entity_text e (xs ++ ys) ≡ entity_text e xs ++ ys
entity_append e xs ys = simp append_assoc

-- a comment
comment_append : (body xs ys : List ℕ) → comment_text body (xs ++ ys) ≡ comment_text body xs ++ ys
comment_append body xs ys = simp append_assoc

-- an element, and a content
mutual
  pub tree_append : (t : Tree) (xs ys : List ℕ) → tree_text t (xs ++ ys) ≡ tree_text t xs ++ ys
  tree_append (empty t) xs ys = ap (λ l. 60 ∷ l) (tag_append t (47 ∷ 62 ∷ xs) ys)
  tree_append (full t c s) xs ys =
      let last : t.name ++ (s ++ (62 ∷ (xs ++ ys))) ≡ (t.name ++ (s ++ (62 ∷ xs))) ++ ys = simp append_assoc in
      let held = ap (λ l. content_text c (60 ∷ 47 ∷ l)) last ∙ content_append c (60 ∷ 47 ∷ (t.name ++ (s ++ (62 ∷ xs)))) ys in
      ap (λ l. 60 ∷ tag_text t (62 ∷ l)) held ∙ ap (λ l. 60 ∷ l) (tag_append t (62 ∷ content_text c (60 ∷ 47 ∷ (t.name ++ (s ++ (62 ∷ xs))))) ys)

  pub content_append : (c : Content) (xs ys : List ℕ) → content_text c (xs ++ ys) ≡ content_text c xs ++ ys
  content_append nothing xs ys = refl
  content_append (byte b c) xs ys = ap (λ l. b ∷ l) (content_append c xs ys)
  content_append (reference e c) xs ys = ap (entity_text e) (content_append c xs ys) ∙ entity_append e (content_text c xs) ys
  content_append (comment body c) xs ys = ap (comment_text body) (content_append c xs ys) ∙ comment_append body (content_text c xs) ys
  content_append (child t c) xs ys = ap (tree_text t) (content_append c xs ys) ∙ tree_append t (content_text c xs) ys

-- what is well formed within a depth is so within a greater one
mutual
  pub tree_deeper : (t : Tree) (d e : ℕ) → d ≤ e → GoodTree t d → GoodTree t e
  tree_deeper (empty t) d e h g = (omega (arith, g.0), g.1)
  tree_deeper (full t c s) d e h g = (omega (arith, g.0), g.1, content_deeper c (d - 1) (e - 1) (omega arith) g.2, g.3)

  pub content_deeper : (c : Content) (d e : ℕ) → d ≤ e → GoodContent c d → GoodContent c e
  content_deeper nothing d e h g = tt
  content_deeper (byte b c) d e h g = (g.0, content_deeper c d e h g.1)
  content_deeper (reference n c) d e h g = content_deeper c d e h g
  content_deeper (comment body c) d e h g = (g.0, content_deeper c d e h g.1)
  content_deeper (child t c) d e h g = (tree_deeper t d e h g.0, content_deeper c d e h g.1)
