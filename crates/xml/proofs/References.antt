-- References and comments, of which a text begins with one at most.
use Rattle.std.proofs.Common.{◌≡◌, ℕ, List, [], ◌∷◌, codes, sym, refl, ◌∙◌}
use Rattle.std.specs.List.{AllByRecursion}
use Rattle.xml.specs.Grammar.{Entity, lt, gt, amp, quot, apos, entity_text, comment_text, GoodComment}
use Rattle.xml.specs.Reads.{Literal, Ends, Missing}
use Rattle.xml.specs.Forms.{EntityForm, CommentForm}
use Rattle.xml.proofs.Unique.{entity_unique, comment_unique}

pub entity_ends : (xs ys : List ℕ) (e : Entity) → xs ≡ entity_text e ys → Ends EntityForm xs ys
entity_ends xs ys e i = record { is = (e, i); only = λ zs f. (entity_unique f.0 e zs ys (sym f.1 ∙ i)).1 }

pub comment_ends : (body ys : List ℕ) → GoodComment body → Ends CommentForm (comment_text body ys) ys
comment_ends body ys g = record { is = record { body = body; good = g; is = refl }; only = λ zs f. (comment_unique f.body body zs ys f.good g (sym f.is)).1 }

-- where none of the five begins, there is none
pub entity_missing : (xs : List ℕ) → AllByRecursion (λ w. Missing (Literal w) xs) (codes "&lt;" ∷ codes "&gt;" ∷ codes "&amp;" ∷ codes "&quot;" ∷ codes "&apos;" ∷ []) → Missing EntityForm xs
entity_missing xs none ys f = go f.0 f.1
  where
    go : (e : Entity) → xs ≡ entity_text e ys → ⊥
    go lt i = none.0 ys i
    go gt i = none.1.0 ys i
    go amp i = none.1.1.0 ys i
    go quot i = none.1.1.1.0 ys i
    go apos i = none.1.1.1.1.0 ys i
