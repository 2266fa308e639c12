-- How deep nested elements are.
use Rattle.std.proofs.Common.{◌≡◌, ℕ, zero, suc, ◌+◌, ◌-◌, ◌<◌, List, [], ◌∷◌, ◌++◌, Some, Ok, Err, Result, codes, sym, refl, ap, ◌∙◌, subst, arith}
use Rattle.std.proofs.lemmas.Bool.{both_ways}
use Rattle.std.specs.Result.{result_err}
use Rattle.shelf.proofs.Reasons.{one_reason, said}
use Rattle.shelf.specs.declared.refusal.Reason.TheVariants.{XmlMalformed}
use Rattle.shelf.specs.declared.refusal.Refusal.{Refusal}
use Rattle.shelf.specs.Refusals.{Says}
use Rattle.shelf.specs.Refusals.Place.{nothing as nowhere}
use Rattle.xml.specs.Bytes.{white}
use Rattle.xml.specs.Grammar.{most_depth, Tag, GoodTag, Tree, empty, full, nothing, child, tree_text, GoodTree, Misc, done, space, note, misc_text, GoodMisc, Declaration, absent, present, declaration_text, Document, document_text, GoodDocument, IsDocument}
use Rattle.xml.specs.Walks.{RootAnswer}
use Rattle.xml.specs.declared.walk.Element.{Element}
use Rattle.xml.proofs.Steps.{heads, tails}
use Rattle.xml.proofs.Unique.{tree_unique}
use Rattle.examples.specs.Depths.{nested, DepthLimit}

abbrev tag : Tag
tag = record { name = codes "a"; attributes = []; space = [] }

good_tag : GoodTag tag
good_tag = record { name = (refl, tt); attributes = tt; space = tt }

-- the tree of nested elements
abbrev tree : ℕ → Tree
tree zero = empty tag
tree (suc n) = full tag (child (tree n) nothing) []

written : (n : ℕ) (rest : List ℕ) → nested n rest ≡ tree_text (tree n) rest
written zero rest = refl
written (suc n) rest = ap (λ l. codes "<a>" ++ l) (written n (codes "</a>" ++ rest))

deep : (n d : ℕ) → n < d → GoodTree (tree n) d
deep zero d h = (h, good_tag)
deep (suc n) d h = (omega arith, good_tag, (deep n (d - 1) (omega arith), tt), tt)

depth : (n d : ℕ) → GoodTree (tree n) d → n < d
depth zero d g = g.0
depth (suc n) d g = let h = depth n (d - 1) g.2.0 in let k = g.0 in omega arith

-- what begins with an element's start tag has neither declaration nor white space nor comment before it
bare : (d : Declaration) (m : Misc) (rest zs : List ℕ) → GoodMisc m → 60 ∷ 97 ∷ zs ≡ declaration_text d (misc_text m rest) → 60 ∷ 97 ∷ zs ≡ rest
bare (present body) m rest zs g e = absurd (omega (arith, heads (tails e)))
bare absent done rest zs g e = e
bare absent (space b m) rest zs g e = absurd (both_ways (white b) (ap white (sym (heads e))) g.0)
bare absent (note body m) rest zs g e = absurd (omega (arith, heads (tails e)))

opens : (n : ℕ) → (zs : List ℕ) × (nested n [] ≡ 60 ∷ 97 ∷ zs)
opens zero = (_, refl)
opens (suc n) = (_, refl)

-- the root of such a document is the tree of nested elements
root_is : (n : ℕ) (d : Document) → GoodDocument d → nested n [] ≡ document_text d → d.root ≡ tree n
root_is n d g e =
    let o = opens n in
    let same = bare d.head d.before (tree_text d.root (misc_text d.after [])) o.0 g.before (sym o.1 ∙ e) in
    (tree_unique d.root (tree n) most_depth (n + 1) g.root (deep n (n + 1) (omega arith)) (misc_text d.after []) [] (sym same ∙ sym o.1 ∙ written n [])).0

pub depth_limit : DepthLimit
depth_limit n = (
  λ h. record {
    tree = record { head = absent; before = done; root = tree n; after = done };
    good = record { head = tt; before = tt; root = deep n most_depth (omega (arith, h)); after = tt };
    is = written n [];
  },
  λ h d.
      let r = root_is n d.tree d.good d.is in
      let k = depth n most_depth (subst (λ t. GoodTree t most_depth) r d.good.root) in
      omega (arith, h, k),
)

-- the refusal of a text that is no document
pub malformed : (e : Refusal) → Says e 21 nowhere 0 → e ≡ record { reason = XmlMalformed; place = 0 }
malformed e s = λ i. record { reason = one_reason e.reason XmlMalformed (said s) i; place = s.place i }

-- the answer to a text that is no document
pub refused : (text : List ℕ) (r : Result Element Refusal) → RootAnswer text r → (IsDocument text → ⊥) → result_err r ≡ Some (record { reason = XmlMalformed; place = 0 })
refused text (Ok e) a none = absurd (none a.whole)
refused text (Err e) a none = ap Some (malformed e a.0)
