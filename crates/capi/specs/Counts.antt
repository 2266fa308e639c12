-- How many children a document's root has.
use Rattle.std.specs.Prelude.{◌≡◌, ℕ, List, length}
use Rattle.xml.specs.Grammar.{Document, document_text, GoodDocument, IsDocument}
use Rattle.xml.specs.Walks.{content_of, children}

-- n is the number of the root's children, whichever tree the text is read as, and 0 where it is no document
pub record RootChildren (text : List ℕ) (n : ℕ) : Type 0 where
  pub counted : (d : Document) → GoodDocument d → text ≡ document_text d → n ≡ length (children (content_of d.root))
  pub none : (IsDocument text → ⊥) → n ≡ 0
