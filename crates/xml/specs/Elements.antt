-- What the reader of elements answers.
use Rattle.std.specs.Prelude.{◌≡◌, ℕ, List, [], Option, MatchOption}
use Rattle.xml.specs.declared.walk.Child.{Child}
use Rattle.xml.specs.Forms.{ElementForm}
use Rattle.xml.specs.Grammar.{Tree, tree_text, content_text, GoodTree}
use Rattle.xml.specs.Reads.{Missing}
use Rattle.xml.specs.Walks.{name_of, content_of}

-- xs begins with an element of this name and this content, in which at most depth elements stand inside one another
pub record FirstElement (depth : ℕ) (xs name inner rest : List ℕ) : Type 0 where
  pub tree : Tree
  pub good : GoodTree tree depth
  pub is : xs ≡ tree_text tree rest
  pub named : name ≡ name_of tree
  pub holds : inner ≡ content_text (content_of tree) []

-- the element that xs begins with, and what follows it, if there is one
abbrev pub ElementAnswer : ℕ → List ℕ → Option Child → Type 0
ElementAnswer depth xs r = MatchOption r (Missing (ElementForm depth) xs) (λ k. FirstElement depth xs k.element.name.now k.element.content.now k.rest.now)
