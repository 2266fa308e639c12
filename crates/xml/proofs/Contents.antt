-- Contents, piece by piece.
use Rattle.std.proofs.Common.{◌≡◌, ℕ, true, List, [], ◌∷◌, ◌++◌, length, ◌≤◌, sym, refl, ap, ◌∙◌, subst, ⊎_elim, arith, length-append}
use Rattle.xml.specs.Bytes.{AllOf, text_byte}
use Rattle.xml.specs.Grammar.{entity_text, comment_text, Tree, empty, full, Content, nothing, byte, reference, comment, child, tree_text, content_text, GoodTree, GoodContent}
use Rattle.xml.specs.Ahead.{Next, at_text, at_reference, at_comment, at_end_tag, at_end, at_other, ahead, Stops}
use Rattle.xml.specs.Reads.{Form, Then, Ends, Missing}
use Rattle.xml.specs.Forms.{EntityForm, CommentForm, ElementForm, PiecesForm, SkipForm, ContentForm}
use Rattle.xml.proofs.Steps.{Same, tails, onward, step}
use Rattle.xml.proofs.Texts.{content_append}
use Rattle.xml.proofs.Shapes.{Shape, shape_at, text_ahead, entity_ahead, tree_stops}
use Rattle.xml.proofs.References.{entity_ends, comment_ends}

-- there is no element of depth 0
pub no_tree : (t : Tree) → GoodTree t 0 → ⊥
no_tree (empty t) g = omega (arith, g.0)
no_tree (full t c s) g = omega (arith, g.0)

-- what follows pieces of content is not longer
pieces_within : (S : List ℕ → Type 0) (d : ℕ) (xs ys : List ℕ) → PiecesForm S d xs ys → length ys ≤ length xs
pieces_within S d xs ys f = omega (arith, ap length f.is, ap length (content_append f.tree [] ys), length-append (content_text f.tree []) ys)

pub skip_within : (xs ys : List ℕ) → SkipForm xs ys → length ys ≤ length xs
skip_within = pieces_within (λ ys. Stops (ahead ys)) 0

pub content_within : (d : ℕ) (xs ys : List ℕ) → ContentForm d xs ys → length ys ≤ length xs
content_within d = pieces_within (λ ys. ahead ys ≡ at_end_tag) d

-- pieces go on behind each piece, where what stops them is none
module _ (S : List ℕ → Type 0) (d : ℕ) (stop : (ys : List ℕ) → S ys → Stops (ahead ys)) where
  abbrev Pieces : Form
  Pieces = PiecesForm S d

  byte_step : (b : ℕ) (xs : List ℕ) → text_byte b ≡ true → Same Pieces (b ∷ xs) Pieces xs
  byte_step b xs t ys = (to, λ f. record { tree = byte b f.tree; good = (t, f.good); is = ap (λ l. b ∷ l) f.is; stops = f.stops })
    where
      to : Pieces (b ∷ xs) ys → Pieces xs ys
      to f =
          let s = shape_at f.tree d f.good ys (b ∷ xs) at_text (stop ys f.stops) f.is (text_ahead b xs t) in
          let g : GoodContent (byte s.0 s.1) d = subst (λ c. GoodContent c d) s.2 f.good in
          record { tree = s.1; good = g.1; is = tails (f.is ∙ ap (λ c. content_text c ys) s.2); stops = f.stops }

  pub text_step : (run xs : List ℕ) → AllOf text_byte run → Same Pieces (run ++ xs) Pieces xs
  text_step [] xs a = λ ys. (λ f. f, λ f. f)
  text_step (b ∷ run) xs a = onward Pieces (b ∷ (run ++ xs)) (run ++ xs) xs (byte_step b (run ++ xs) a.0) (text_step run xs a.1)

  -- a reference
  pub reference_split : (xs ys : List ℕ) → ahead xs ≡ at_reference → Pieces xs ys → Then EntityForm Pieces xs ys
  reference_split xs ys l f =
      let s = shape_at f.tree d f.good ys xs at_reference (stop ys f.stops) f.is l in
      (content_text s.1 ys, (s.0, f.is ∙ ap (λ c. content_text c ys) s.2), record { tree = s.1; good = subst (λ c. GoodContent c d) s.2 f.good; is = refl; stops = f.stops })

  pub reference_step : (xs ys : List ℕ) → ahead xs ≡ at_reference → Ends EntityForm xs ys → Same Pieces xs Pieces ys
  reference_step xs ys l e = step EntityForm Pieces xs ys e (λ zs. reference_split xs zs l) (λ zs t. record { tree = reference t.1.0 t.2.tree; good = t.2.good; is = t.1.1 ∙ ap (entity_text t.1.0) t.2.is; stops = t.2.stops })

  pub reference_none : (xs : List ℕ) → ahead xs ≡ at_reference → Missing EntityForm xs → Missing Pieces xs
  reference_none xs l m ys f = let p = reference_split xs ys l f in m p.0 p.1

  -- a comment
  pub comment_split : (xs ys : List ℕ) → ahead xs ≡ at_comment → Pieces xs ys → Then CommentForm Pieces xs ys
  comment_split xs ys l f =
      let s = shape_at f.tree d f.good ys xs at_comment (stop ys f.stops) f.is l in
      let g : GoodContent (comment s.0 s.1) d = subst (λ c. GoodContent c d) s.2 f.good in
      (content_text s.1 ys, record { body = s.0; good = g.0; is = f.is ∙ ap (λ c. content_text c ys) s.2 }, record { tree = s.1; good = g.1; is = refl; stops = f.stops })

  pub comment_step : (xs ys : List ℕ) → ahead xs ≡ at_comment → Ends CommentForm xs ys → Same Pieces xs Pieces ys
  comment_step xs ys l e = step CommentForm Pieces xs ys e (λ zs. comment_split xs zs l) (λ zs t. record { tree = comment t.1.body t.2.tree; good = (t.1.good, t.2.good); is = t.1.is ∙ ap (comment_text t.1.body) t.2.is; stops = t.2.stops })

  pub comment_none : (xs : List ℕ) → ahead xs ≡ at_comment → Missing CommentForm xs → Missing Pieces xs
  comment_none xs l m ys f = let p = comment_split xs ys l f in m p.0 p.1

  -- an element, where nothing else begins and the pieces do not stop
  pub element_split : (xs ys : List ℕ) → Stops (ahead xs) → (S xs → ⊥) → Pieces xs ys → Then (ElementForm d) Pieces xs ys
  element_split xs ys s n f = go (ahead xs) s (shape_at f.tree d f.good ys xs (ahead xs) (stop ys f.stops) f.is refl)
    where
      none : f.tree ≡ nothing → Then (ElementForm d) Pieces xs ys
      none e = absurd (n (subst S (sym (f.is ∙ ap (λ c. content_text c ys) e)) f.stops))

      some : (t : Tree) × (k : Content) × (f.tree ≡ child t k) → Then (ElementForm d) Pieces xs ys
      some p =
          let g : GoodContent (child p.0 p.1) d = subst (λ c. GoodContent c d) p.2 f.good in
          (content_text p.1 ys, record { tree = p.0; good = g.0; is = f.is ∙ ap (λ c. content_text c ys) p.2 }, record { tree = p.1; good = g.1; is = refl; stops = f.stops })

      go : (l : Next) → Stops l → Shape f.tree l → Then (ElementForm d) Pieces xs ys
      go at_text s h = absurd s
      go at_reference s h = absurd s
      go at_comment s h = absurd s
      go at_end_tag s h = none h
      go at_end s h = none h
      go at_other s h = ⊎_elim none some h

  pub element_step : (xs ys : List ℕ) → Stops (ahead xs) → (S xs → ⊥) → Ends (ElementForm d) xs ys → Same Pieces xs Pieces ys
  element_step xs ys s n e = step (ElementForm d) Pieces xs ys e (λ zs. element_split xs zs s n) (λ zs t. record { tree = child t.1.tree t.2.tree; good = (t.1.good, t.2.good); is = t.1.is ∙ ap (tree_text t.1.tree) t.2.is; stops = t.2.stops })

  pub element_none : (xs : List ℕ) → Stops (ahead xs) → (S xs → ⊥) → Missing (ElementForm d) xs → Missing Pieces xs
  element_none xs s n m ys f = let p = element_split xs ys s n f in m p.0 p.1

  -- text, references and comments
  pub skip_step : (c : Content) (xs : List ℕ) → GoodContent c 0 → Same Pieces (content_text c xs) Pieces xs
  skip_step nothing xs g = λ ys. (λ f. f, λ f. f)
  skip_step (byte b k) xs g = onward Pieces (b ∷ content_text k xs) (content_text k xs) xs (byte_step b (content_text k xs) g.0) (skip_step k xs g.1)
  skip_step (reference e k) xs g =
      let rest = content_text k xs in
      onward Pieces (entity_text e rest) rest xs (reference_step (entity_text e rest) rest (entity_ahead e rest) (entity_ends (entity_text e rest) rest e refl)) (skip_step k xs g)
  skip_step (comment body k) xs g =
      let rest = content_text k xs in
      onward Pieces (comment_text body rest) rest xs (comment_step (comment_text body rest) rest refl (comment_ends body rest g.0)) (skip_step k xs g.1)
  skip_step (child t k) xs g = absurd (no_tree t g.0)

-- what is skipped in front of pieces can be
skipped : (c : Content) (d : ℕ) (rest : List ℕ) → GoodContent c d → Stops (ahead rest) → (ys : List ℕ) × SkipForm (content_text c rest) ys
skipped nothing d rest g s = (rest, record { tree = nothing; good = tt; is = refl; stops = s })
skipped (byte b k) d rest g s =
    let r = skipped k d rest g.1 s in
    (r.0, record { tree = byte b r.1.tree; good = (g.0, r.1.good); is = ap (λ l. b ∷ l) r.1.is; stops = r.1.stops })
skipped (reference e k) d rest g s =
    let r = skipped k d rest g s in
    (r.0, record { tree = reference e r.1.tree; good = r.1.good; is = ap (entity_text e) r.1.is; stops = r.1.stops })
skipped (comment body k) d rest g s =
    let r = skipped k d rest g.1 s in
    (r.0, record { tree = comment body r.1.tree; good = (g.0, r.1.good); is = ap (comment_text body) r.1.is; stops = r.1.stops })
skipped (child t k) d rest g s = (tree_text t (content_text k rest), record { tree = nothing; good = tt; is = refl; stops = tree_stops t d g.0 (content_text k rest) })

-- where no text, reference or comment begins, nothing is skipped
pub skip_ends : (xs : List ℕ) → Stops (ahead xs) → Ends SkipForm xs xs
skip_ends xs s = record { is = record { tree = nothing; good = tt; is = refl; stops = s }; only = λ ys f. go ys f (ahead xs) s (shape_at f.tree 0 f.good ys xs (ahead xs) f.stops f.is refl) }
  where
    none : (ys : List ℕ) (f : SkipForm xs ys) → f.tree ≡ nothing → ys ≡ xs
    none ys f e = sym (f.is ∙ ap (λ c. content_text c ys) e)

    go : (ys : List ℕ) (f : SkipForm xs ys) (l : Next) → Stops l → Shape f.tree l → ys ≡ xs
    go ys f at_text s h = absurd s
    go ys f at_reference s h = absurd s
    go ys f at_comment s h = absurd s
    go ys f at_end_tag s h = none ys f h
    go ys f at_end s h = none ys f h
    go ys f at_other s h = ⊎_elim (none ys f) (λ p. let g : GoodContent (child p.0 p.1) 0 = subst (λ c. GoodContent c 0) p.2 f.good in absurd (no_tree p.0 g.0)) h

-- an end tag ends content
pub close_stops : (ys : List ℕ) → ahead ys ≡ at_end_tag → Stops (ahead ys)
close_stops ys e = subst Stops (sym e) tt

pub content_ends : (d : ℕ) (xs : List ℕ) → ahead xs ≡ at_end_tag → Ends (ContentForm d) xs xs
content_ends d xs l = record {
  is = record { tree = nothing; good = tt; is = refl; stops = l };
  only = λ ys f. sym (f.is ∙ ap (λ c. content_text c ys) (shape_at f.tree d f.good ys xs at_end_tag (close_stops ys f.stops) f.is l));
}

-- content goes on behind what is skipped
pub skip_same : (d : ℕ) (xs ys : List ℕ) → SkipForm xs ys → Same (ContentForm d) xs (ContentForm d) ys
skip_same d xs ys f = subst (λ l. Same (ContentForm d) l (ContentForm d) ys) (sym f.is) (skip_step (λ zs. ahead zs ≡ at_end_tag) d close_stops f.tree ys f.good)

pub skip_none : (d : ℕ) (xs : List ℕ) → Missing SkipForm xs → Missing (ContentForm d) xs
skip_none d xs m ys f =
    let r = skipped f.tree d ys f.good (close_stops ys f.stops) in
    m r.0 (subst (λ l. SkipForm l r.0) (sym f.is) r.1)
