-- An element from its parts.
use Rattle.std.proofs.Common.{◌≡◌, ℕ, ◌+◌, ◌-◌, ◌<◌, true, false, eqb, List, [], ◌∷◌, ◌++◌, length, take, None, Option, sym, refl, ap, ◌∙◌, subst, arith, length-append}
use Rattle.std.proofs.lemmas.List.{take_at}
use Rattle.std.specs.Cmp.Lexicographic.{pointwise}
use Rattle.xml.specs.declared.walk.Child.{Child}
use Rattle.xml.specs.Bytes.{name_byte, tag_end}
use Rattle.xml.specs.Grammar.{Tag, tag_text, GoodTag, attributes_text, Tree, empty, full, tree_text, content_text, GoodTree}
use Rattle.xml.specs.Reads.{Form, Literal, begins, Ends, Missing, Then}
use Rattle.xml.specs.Forms.{Named, NameForm, Start, TailForm, EndForm, ElementForm, ContentForm}
use Rattle.xml.specs.Elements.{FirstElement, ElementAnswer}
use Rattle.xml.specs.Walks.{content_of}
use Rattle.xml.proofs.Unique.{tag_stops, tag_unique, tree_unique}
use Rattle.xml.proofs.Steps.{tails, cases_none, literal_reads}
use Rattle.xml.proofs.Texts.{length-tag, content_append}

-- a good tag in front of its end is a name and what follows it
opening : (t : Tag) → GoodTag t → (rest : List ℕ) → begins tag_end rest ≡ true → Then (NameForm name_byte) TailForm (tag_text t rest) rest
opening t g rest s = (
  attributes_text t.attributes (t.space ++ rest),
  (t.name, record { good = g.name; is = refl; stops = tag_stops t g rest s }),
  record { attributes = t.attributes; space = t.space; good = g.attributes; white = g.space; is = refl; ends = s },
)

-- a start tag is that, behind a `<`
pub start_read : (xs body name mid ys : List ℕ) → xs ≡ 60 ∷ body → Named name_byte body name mid → TailForm mid ys → Start xs name ys
start_read xs body name mid ys e n t = record {
  tag = record { name = name; attributes = t.attributes; space = t.space };
  good = record { name = n.good; attributes = t.good; space = t.white };
  is = e ∙ ap (λ l. 60 ∷ l) (n.is ∙ ap (λ l. name ++ l) t.is);
  named = refl;
  ends = t.ends;
}

pub start_none : (xs body : List ℕ) → xs ≡ 60 ∷ body → Missing (Then (NameForm name_byte) TailForm) body → (name ys : List ℕ) → Start xs name ys → ⊥
start_none xs body e m name ys s =
    let P : List ℕ → Type 0 = λ l. Then (NameForm name_byte) TailForm l ys in
    m ys (subst P (tails (sym s.is ∙ e)) (opening s.tag s.good ys s.ends))

-- an element starts with a start tag
pub no_element : (d : ℕ) (xs : List ℕ) → ((name ys : List ℕ) → Start xs name ys → ⊥) → Missing (ElementForm d) xs
no_element d xs m ys f = go f.tree f.good f.is
  where
    go : (t : Tree) → GoodTree t d → xs ≡ tree_text t ys → ⊥
    go (empty t) g e = m t.name (47 ∷ 62 ∷ ys) (record { tag = t; good = g.1; is = e; named = refl; ends = refl })
    go (full t c s) g e = m t.name (62 ∷ content_text c (60 ∷ 47 ∷ (t.name ++ (s ++ (62 ∷ ys))))) (record { tag = t; good = g.1; is = e; named = refl; ends = refl })

pub no_depth : (d : ℕ) (xs : List ℕ) → d ≡ 0 → Missing (ElementForm d) xs
no_depth d xs z ys f = go f.tree f.good
  where
    go : (t : Tree) → GoodTree t d → ⊥
    go (empty t) g = omega (arith, g.0)
    go (full t c s) g = omega (arith, g.0)

-- the first element is the only one
pub element_ends : (d : ℕ) (xs name inner rest : List ℕ) → FirstElement d xs name inner rest → Ends (ElementForm d) xs rest
element_ends d xs name inner rest e = record {
  is = record { tree = e.tree; good = e.good; is = e.is };
  only = λ ys f. (tree_unique f.tree e.tree d d f.good e.good ys rest (sym f.is ∙ e.is)).1;
}

pub answer_none : (d : ℕ) (xs : List ℕ) (r : Option Child) → r ≡ None → Missing (ElementForm d) xs → ElementAnswer d xs r
answer_none d xs r e m = cases_none r (Missing (ElementForm d) xs) (λ k. FirstElement d xs k.element.name.now k.element.content.now k.rest.now) e m

-- what follows an element is shorter, also with its content
pub element_forward : (d : ℕ) (xs name inner rest : List ℕ) → FirstElement d xs name inner rest → length inner + length rest < length xs
element_forward d xs name inner rest e = go e.tree (ap length e.is) (ap length e.holds)
  where
    go : (t : Tree) → length xs ≡ length (tree_text t rest) → length inner ≡ length (content_text (content_of t) []) → length inner + length rest < length xs
    go (empty t) h k = let tag = length-tag t (47 ∷ 62 ∷ rest) in omega (arith, h, k)
    go (full t c s) h k =
        let last = t.name ++ (s ++ (62 ∷ rest)) in
        let tag = length-tag t (62 ∷ content_text c (60 ∷ 47 ∷ last)) in
        let held = ap length (content_append c [] (60 ∷ 47 ∷ last)) ∙ length-append (content_text c []) (60 ∷ 47 ∷ last) in
        omega (arith, h, k, length-append t.name (s ++ (62 ∷ rest)), length-append s (62 ∷ rest))

-- what is left of a list where some of its end is cut off
pub front : (run rest xs : List ℕ) → xs ≡ run ++ rest → take (length xs - length rest) xs ≡ run
front run rest xs e = ap (take (length xs - length rest)) e ∙ take_at run rest (length xs - length rest) (omega (arith, ap length e, length-append run rest))

-- the content and the end tag behind a start tag
abbrev pub Rest : ℕ → List ℕ → Form
Rest d name = Then (Literal (62 ∷ [])) (Then (ContentForm d) (EndForm name))

module _ (xs name end : List ℕ) (s : Start xs name end) where
  -- whatever tag stands there is this one
  tagged : (t : Tag) → GoodTag t → (rest : List ℕ) → begins tag_end rest ≡ true → xs ≡ 60 ∷ tag_text t rest → (t ≡ s.tag) × (rest ≡ end)
  tagged t g rest e i = tag_unique t s.tag g s.good rest end e s.ends (tails (sym i ∙ s.is))

  -- an empty tag
  pub empty_element : (d : ℕ) (ys : List ℕ) → 0 < d → end ≡ 47 ∷ 62 ∷ ys → FirstElement d xs name [] ys
  empty_element d ys h e = record { tree = empty s.tag; good = (h, s.good); is = s.is ∙ ap (λ r. 60 ∷ tag_text s.tag r) e; named = s.named; holds = refl }

  -- a start tag, content and an end tag
  pub full_element : (d : ℕ) (inner close ys : List ℕ) → 0 < d → end ≡ 62 ∷ inner → (c : ContentForm (d - 1) inner close) → EndForm name close ys → FirstElement d xs name (take (length inner - length close) inner) ys
  full_element d inner close ys h l c e = record {
    tree = full s.tag c.tree e.space;
    good = (h, s.good, c.good, e.good);
    is = s.is ∙ ap (λ r. 60 ∷ tag_text s.tag r) (l ∙ ap (λ r. 62 ∷ r) (c.is ∙ ap (content_text c.tree) (e.is ∙ ap (λ n. 60 ∷ 47 ∷ (n ++ (e.space ++ (62 ∷ ys)))) s.named)));
    named = s.named;
    holds = front (content_text c.tree []) close inner (c.is ∙ content_append c.tree [] close);
  }

  -- no element, where neither follows the start tag
  missing : (d : ℕ) → Missing (Literal (47 ∷ 62 ∷ [])) end → Missing (Rest (d - 1) name) end → Missing (ElementForm d) xs
  missing d m n ys f = go f.tree f.good f.is
    where
      go : (t : Tree) → GoodTree t d → xs ≡ tree_text t ys → ⊥
      go (empty t) g e = m ys (sym (tagged t g.1 (47 ∷ 62 ∷ ys) refl e).1)
      go (full t c w) g e =
          let last = 60 ∷ 47 ∷ (t.name ++ (w ++ (62 ∷ ys))) in
          let same = tagged t g.1 (62 ∷ content_text c last) refl e in
          n ys (content_text c last, sym same.1, (last, record { tree = c; good = g.2; is = refl; stops = refl }, record { space = w; good = g.3; is = ap (λ u. 60 ∷ 47 ∷ (u ++ (w ++ (62 ∷ ys)))) (ap (λ u. u.name) same.0 ∙ sym s.named) }))

  pub refused : (d : ℕ) (r : Option Child) → r ≡ None → pointwise eqb (take 2 end) (47 ∷ 62 ∷ []) ≡ false → Missing (Rest (d - 1) name) end → ElementAnswer d xs r
  refused d r e m n = answer_none d xs r e (missing d (literal_reads (47 ∷ 62 ∷ []) end None m) n)
