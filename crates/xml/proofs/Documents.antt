-- A whole document from its parts.
use Rattle.std.proofs.Common.{◌≡◌, ℕ, ◌<◌, true, false, List, [], ◌∷◌, ◌++◌, length, codes, None, Option, MatchOption, sym, refl, ap, ◌∙◌, subst, arith}
use Rattle.std.proofs.lemmas.List.{append_cancel_left, nil_from_length}
use Rattle.std.proofs.lemmas.Bool.{both_ways}
use Rattle.xml.specs.declared.walk.Element.{Element}
use Rattle.xml.specs.Bytes.{AllOf, white}
use Rattle.xml.specs.Grammar.{most_depth, comment_text, Tree, empty, full, tree_text, Misc, done, space, note, misc_text, GoodMisc, Declaration, absent, present, declaration_text, GoodDeclaration, Document, document_text, GoodDocument, IsDocument}
use Rattle.xml.specs.Ahead.{at_comment, ahead}
use Rattle.xml.specs.Reads.{Form, Begins, begins, Span, Then, Ends, Missing}
use Rattle.xml.specs.Forms.{PairForm, CommentForm, ElementForm, MiscForm, Alone, DeclarationForm}
use Rattle.xml.specs.Elements.{FirstElement}
use Rattle.xml.specs.Walks.{ElementIs, RootIs}
use Rattle.xml.proofs.Steps.{Same, tails, heads, onward, step, cases_none}
use Rattle.xml.proofs.Shapes.{white_ahead, tree_ahead}
use Rattle.xml.proofs.Unique.{undeclared, document_unique}
use Rattle.xml.proofs.Walks.{element_is}

-- white space and comments go on behind white space
white_byte : (b : ℕ) (xs : List ℕ) → white b ≡ true → Same MiscForm (b ∷ xs) MiscForm xs
white_byte b xs w ys = (λ f. to f f.tree f.good f.is, λ f. record { tree = space b f.tree; good = (w, f.good); is = ap (λ l. b ∷ l) f.is; stops = f.stops; no_comment = f.no_comment })
  where
    to : MiscForm (b ∷ xs) ys → (m : Misc) → GoodMisc m → b ∷ xs ≡ misc_text m ys → MiscForm xs ys
    to f done g e = absurd (both_ways (white b) (ap (begins white) e ∙ f.stops) w)
    to f (space c m) g e = record { tree = m; good = g.1; is = tails e; stops = f.stops; no_comment = f.no_comment }
    to f (note body m) g e = absurd (both_ways (white b) (ap white (heads e)) w)

pub white_step : (xs ys : List ℕ) → Span white xs ys → Same MiscForm xs MiscForm ys
white_step xs ys s = subst (λ l. Same MiscForm l MiscForm ys) (sym s.longest.whole) (go s.run s.longest.all)
  where
    go : (run : List ℕ) → AllOf white run → Same MiscForm (run ++ ys) MiscForm ys
    go [] a = λ zs. (λ f. f, λ f. f)
    go (b ∷ run) a = onward MiscForm (b ∷ (run ++ ys)) (run ++ ys) ys (white_byte b (run ++ ys) a.0) (go run a.1)

-- a comment, and then white space and comments
pub note_split : (xs ys : List ℕ) → ahead xs ≡ at_comment → MiscForm xs ys → Then CommentForm MiscForm xs ys
note_split xs ys l f = go f.tree f.good f.is
  where
    go : (m : Misc) → GoodMisc m → xs ≡ misc_text m ys → Then CommentForm MiscForm xs ys
    go done g e = absurd (f.no_comment (sym (ap ahead e) ∙ l))
    go (space b m) g e = let t = sym (ap ahead e ∙ white_ahead b (misc_text m ys) g.0) ∙ l in absurd (cc)
    go (note body m) g e = (misc_text m ys, record { body = body; good = g.0; is = e }, record { tree = m; good = g.1; is = refl; stops = f.stops; no_comment = f.no_comment })

pub note_step : (xs ys : List ℕ) → ahead xs ≡ at_comment → Ends CommentForm xs ys → Same MiscForm xs MiscForm ys
note_step xs ys l e = step CommentForm MiscForm xs ys e (λ zs. note_split xs zs l) (λ zs t. record { tree = note t.1.body t.2.tree; good = (t.1.good, t.2.good); is = t.1.is ∙ ap (comment_text t.1.body) t.2.is; stops = t.2.stops; no_comment = t.2.no_comment })

pub note_none : (xs : List ℕ) → ahead xs ≡ at_comment → Missing CommentForm xs → Missing MiscForm xs
note_none xs l m ys f = let p = note_split xs ys l f in m p.0 p.1

-- where neither begins, there is none
pub misc_ends : (xs : List ℕ) → begins white xs ≡ false → (ahead xs ≡ at_comment → ⊥) → Ends MiscForm xs xs
misc_ends xs w n = record { is = record { tree = done; good = tt; is = refl; stops = w; no_comment = n }; only = λ ys f. go ys f.tree f.good f.is }
  where
    go : (ys : List ℕ) (m : Misc) → GoodMisc m → xs ≡ misc_text m ys → ys ≡ xs
    go ys done g e = sym e
    go ys (space b m) g e = absurd (both_ways (white b) (sym (ap (begins white) e) ∙ w) g.0)
    go ys (note body m) g e = absurd (n (ap ahead e))

-- the declaration
pub declared_same : (text body : List ℕ) → text ≡ codes "<?xml" ++ body → Same DeclarationForm text (PairForm 63 62) body
declared_same text body e ys = (λ f. go f.tree f.good f.is f.alone, λ p. record { tree = present p.body; good = p.first; is = e ∙ ap (λ l. codes "<?xml" ++ l) p.is; alone = tt })
  where
    go : (d : Declaration) → GoodDeclaration d → text ≡ declaration_text d ys → Alone d ys → PairForm 63 62 body ys
    go absent g i a = absurd (a (body, sym i ∙ e))
    go (present b) g i a = record { body = b; first = g; is = append_cancel_left (codes "<?xml") _ _ (sym e ∙ i) }

-- a document is a declaration, white space and comments, the root, and white space and comments
abbrev pub DocumentChain : Form
DocumentChain = Then DeclarationForm (Then MiscForm (Then (ElementForm most_depth) MiscForm))

tree_white : (t : Tree) (ys : List ℕ) → begins white (tree_text t ys) ≡ false
tree_white (empty t) ys = refl
tree_white (full t c s) ys = refl

alone : (h : Declaration) (rest : List ℕ) → (Begins (codes "<?xml") rest → ⊥) → Alone h rest
alone absent rest n = n
alone (present body) rest n = tt

pub parts : (text : List ℕ) → IsDocument text → DocumentChain text []
parts text d =
    let t = d.tree in
    let g = d.good in
    let end = misc_text t.after [] in
    let rest = tree_text t.root end in (
      misc_text t.before rest,
      record { tree = t.head; good = g.head; is = d.is; alone = alone t.head (misc_text t.before rest) (undeclared t.before g.before t.root most_depth g.root end) },
      (
        rest,
        record { tree = t.before; good = g.before; is = refl; stops = tree_white t.root end; no_comment = λ c. let t = sym (tree_ahead t.root most_depth g.root end) ∙ c in cc },
        (
          end,
          record { tree = t.root; good = g.root; is = refl },
          record { tree = t.after; good = g.after; is = refl; stops = refl; no_comment = λ p. cc },
        ),
      ),
    )

pub root_none : (text : List ℕ) (r : Option Element) → r ≡ None → Missing DocumentChain text → MatchOption r (IsDocument text → ⊥) (λ e. RootIs text e.name.now e.content.now)
root_none text r e m = cases_none r (IsDocument text → ⊥) (λ e. RootIs text e.name.now e.content.now) e (λ d. m [] (parts text d))

pub not_all : (text rest : List ℕ) → Ends DocumentChain text rest → 0 < length rest → IsDocument text → ⊥
not_all text rest c h d = omega (arith, ap length (c.only [] (parts text d)))

-- the document that was read, and its root
pub root_read : (text head start name inner rest last : List ℕ) → DeclarationForm text head → MiscForm head start → FirstElement most_depth start name inner rest → MiscForm rest last → length last ≡ 0 → RootIs text name inner
root_read text head start name inner rest last h b s a z =
    let d : Document = record { head = h.tree; before = b.tree; root = s.tree; after = a.tree } in
    let g : GoodDocument d = record { head = h.good; before = b.good; root = s.good; after = a.good } in
    let after = a.is ∙ ap (misc_text a.tree) (nil_from_length last z) in
    let e : text ≡ document_text d = h.is ∙ ap (declaration_text h.tree) (b.is ∙ ap (misc_text b.tree) (s.is ∙ ap (tree_text s.tree) after)) in
    let shows : ElementIs d.root name inner = element_is s.tree s.good name inner s.named s.holds in
    record { whole = record { tree = d; good = g; is = e }; root = λ k gk ek. subst (λ x. ElementIs x.root name inner) (document_unique text d k g gk e ek) shows }
