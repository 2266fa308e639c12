-- The elements of a document as a walk tells them: names, contents and children.
use Rattle.std.specs.Prelude.{◌≡◌, ℕ, List, [], ◌∷◌, Some, None, Option, Result, MatchOption, MatchResult}
use Rattle.std.specs.Option.{option_map}
use Rattle.shelf.specs.declared.refusal.Refusal.{Refusal}
use Rattle.shelf.specs.Refusals.{Says}
use Rattle.shelf.specs.Refusals.Place.{nothing as nowhere}
use Rattle.xml.specs.declared.walk.Child.{Child}
use Rattle.xml.specs.declared.walk.Element.{Element}
use Rattle.xml.specs.Bytes.{AllOf, text_byte}
use Rattle.xml.specs.Grammar.{most_depth, Tree, empty, full, Content, nothing, byte, reference, comment, child, tree_text, content_text, GoodTree, GoodContent, Document, document_text, GoodDocument, IsDocument}

-- the name of an element
abbrev pub name_of : Tree → List ℕ
name_of (empty t) = t.name
name_of (full t c space) = t.name

-- the content of an element; an empty tag has none
abbrev pub content_of : Tree → Content
content_of (empty t) = nothing
content_of (full t c space) = c

-- the child elements, in the order in which they stand
abbrev pub children : Content → List Tree
children nothing = []
children (byte b c) = children c
children (reference e c) = children c
children (comment body c) = children c
children (child t c) = t ∷ children c

-- the bytes of a content that is text alone; a reference, a comment or a child makes it none
abbrev pub plain : Content → Option (List ℕ)
plain nothing = Some []
plain (byte b c) = option_map (λ bs. b ∷ bs) (plain c)
plain (reference e c) = None
plain (comment body c) = None
plain (child t c) = None

-- the bytes are the text of the content c, which is well formed
pub record Holds (bytes : List ℕ) (c : Content) : Type 0 where
  pub good : GoodContent c most_depth
  pub is : bytes ≡ content_text c []

-- the element t has this name, and a content with this text
pub record ElementIs (t : Tree) (name inner : List ℕ) : Type 0 where
  pub named : name ≡ name_of t
  pub holds : Holds inner (content_of t)

-- the text is a document, and the root of every tree that it is the text of has this name and this content
pub record RootIs (text name inner : List ℕ) : Type 0 where
  pub whole : IsDocument text
  pub root : (d : Document) → GoodDocument d → text ≡ document_text d → ElementIs d.root name inner

-- what `root` answers: the root's name and content, or the refusal of a text that is no document
abbrev pub RootAnswer : List ℕ → Result Element Refusal → Type 0
RootAnswer text r = MatchResult r (λ e. RootIs text e.name.now e.content.now) (λ e. Says e 21 nowhere 0 × (IsDocument text → ⊥))

-- the bytes begin with an element of this name and content, behind text, references and comments (a content of depth 0), and the
-- rest follows
pub record FirstChild (bytes name inner rest : List ℕ) : Type 0 where
  pub before : Content
  pub flat : GoodContent before 0
  pub tree : Tree
  pub good : GoodTree tree most_depth
  pub is : bytes ≡ content_text before (tree_text tree rest)
  pub shows : ElementIs tree name inner

-- the bytes begin with no such element
abbrev pub NoChild : List ℕ → Type 0
NoChild bytes = (name inner rest : List ℕ) → FirstChild bytes name inner rest → ⊥

-- this is the one element that the bytes begin with
pub record OnlyFirst (bytes name inner rest : List ℕ) : Type 0 where
  pub is : FirstChild bytes name inner rest
  pub only : (n i r : List ℕ) → FirstChild bytes n i r → (n ≡ name) × (i ≡ inner) × (r ≡ rest)

-- the children of c are an element of this name and content, and then the children of what the rest holds
pub record FirstAndRest (c : Content) (name inner rest : List ℕ) : Type 0 where
  pub first : Tree
  pub behind : Content
  pub are : children c ≡ first ∷ children behind
  pub shows : ElementIs first name inner
  pub follows : Holds rest behind

-- what `first_child` answers of any bytes: none, or the one element that they begin with
abbrev pub FirstAnswer : List ℕ → Option Child → Type 0
FirstAnswer bytes r = MatchOption r (NoChild bytes) (λ k. OnlyFirst bytes k.element.name.now k.element.content.now k.rest.now)

-- what it answers of the content c: none where c has no children, or its first child and what follows
abbrev pub FirstOf : Content → Option Child → Type 0
FirstOf c r = MatchOption r (children c ≡ []) (λ k. FirstAndRest c k.element.name.now k.element.content.now k.rest.now)

-- what `plain_text` answers of any bytes: them, where all are text
abbrev pub TextAnswer : List ℕ → Option (List ℕ) → Type 0
TextAnswer bytes r = MatchOption r (AllOf text_byte bytes → ⊥) (λ t. (t ≡ bytes) × AllOf text_byte bytes)
