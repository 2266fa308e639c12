-- The forms that the readers of single things read.
use Rattle.std.specs.Prelude.{◌≡◌, ℕ, Bool, true, false, ◌⊎◌, List, [], ◌∷◌, ◌++◌, codes}
use Rattle.std.specs.List.{AllByRecursion}
use Rattle.xml.specs.Bytes.{AllOf, white, attribute_byte, value_byte, tag_end}
use Rattle.xml.specs.Grammar.{IsName, Attribute, attributes_text, GoodAttribute, Tag, tag_text, GoodTag, Entity, entity_text, NoPair, comment_text, GoodComment, Tree, Content, tree_text, content_text, GoodTree, GoodContent, Misc, misc_text, GoodMisc, Declaration, absent, present, declaration_text, GoodDeclaration}
use Rattle.xml.specs.Ahead.{at_comment, at_end_tag, ahead, Stops}
use Rattle.xml.specs.Reads.{Form, begins, Begins, Then, Span, Literal}

-- a name that goes on with bytes of the kind p, as long as there are any
pub record Named (p : ℕ → Bool) (xs name ys : List ℕ) : Type 0 where
  pub good : IsName p name
  pub is : xs ≡ name ++ ys
  pub stops : begins p ys ≡ false

-- the same, whatever the name
abbrev pub NameForm : (ℕ → Bool) → Form
NameForm p xs ys = (name : List ℕ) × Named p xs name ys

-- a value between two quotes q
pub record QuotedForm (q : ℕ) (xs ys : List ℕ) : Type 0 where
  pub value : List ℕ
  pub good : AllOf (value_byte q) value
  pub is : xs ≡ q ∷ (value ++ (q ∷ ys))

-- a value in either quote
abbrev pub ValueForm : Form
ValueForm xs ys = (q : ℕ) × ((q ≡ 34) ⊎ (q ≡ 39)) × QuotedForm q xs ys

-- an attribute, without the white space before it
abbrev pub AttributeForm : Form
AttributeForm = Then (NameForm attribute_byte) (Then (Span white) (Then (Literal (61 ∷ [])) (Then (Span white) ValueForm)))

-- what follows a tag's name, up to the tag's `>` or `/`
pub record TailForm (xs ys : List ℕ) : Type 0 where
  pub attributes : List Attribute
  pub space : List ℕ
  pub good : AllByRecursion GoodAttribute attributes
  pub white : AllOf white space
  pub is : xs ≡ attributes_text attributes (space ++ ys)
  pub ends : begins tag_end ys ≡ true

-- a start tag or an empty tag of the name, up to its `>` or `/>`
pub record Start (xs name ys : List ℕ) : Type 0 where
  pub tag : Tag
  pub good : GoodTag tag
  pub is : xs ≡ 60 ∷ tag_text tag ys
  pub named : name ≡ tag.name
  pub ends : begins tag_end ys ≡ true

-- an end tag of the name
pub record EndForm (name : List ℕ) (xs ys : List ℕ) : Type 0 where
  pub space : List ℕ
  pub good : AllOf white space
  pub is : xs ≡ 60 ∷ 47 ∷ (name ++ (space ++ (62 ∷ ys)))

-- a reference
abbrev pub EntityForm : Form
EntityForm xs ys = (e : Entity) × (xs ≡ entity_text e ys)

-- any bytes up to the first a that stands right before a b, and these two
pub record PairForm (a b : ℕ) (xs ys : List ℕ) : Type 0 where
  pub body : List ℕ
  pub first : NoPair a b (body ++ a ∷ [])
  pub is : xs ≡ body ++ (a ∷ b ∷ ys)

-- a comment
pub record CommentForm (xs ys : List ℕ) : Type 0 where
  pub body : List ℕ
  pub good : GoodComment body
  pub is : xs ≡ comment_text body ys

-- an element
pub record ElementForm (depth : ℕ) (xs ys : List ℕ) : Type 0 where
  pub tree : Tree
  pub good : GoodTree tree depth
  pub is : xs ≡ tree_text tree ys

-- pieces of content, up to a rest of the kind S
pub record PiecesForm (S : List ℕ → Type 0) (depth : ℕ) (xs ys : List ℕ) : Type 0 where
  pub tree : Content
  pub good : GoodContent tree depth
  pub is : xs ≡ content_text tree ys
  pub stops : S ys

-- text, references and comments, as long as there are any
abbrev pub SkipForm : Form
SkipForm = PiecesForm (λ ys. Stops (ahead ys)) 0

-- content up to an end tag
abbrev pub ContentForm : ℕ → Form
ContentForm depth = PiecesForm (λ ys. ahead ys ≡ at_end_tag) depth

-- white space and comments, as long as there are any
pub record MiscForm (xs ys : List ℕ) : Type 0 where
  pub tree : Misc
  pub good : GoodMisc tree
  pub is : xs ≡ misc_text tree ys
  pub stops : begins white ys ≡ false
  pub no_comment : ahead ys ≡ at_comment → ⊥

-- where there is no declaration, none follows
abbrev pub Alone : Declaration → List ℕ → Type 0
Alone absent rest = Begins (codes "<?xml") rest → ⊥
Alone (present body) rest = Unit {0}

-- a declaration, or nothing where there is none
pub record DeclarationForm (xs ys : List ℕ) : Type 0 where
  pub tree : Declaration
  pub good : GoodDeclaration tree
  pub is : xs ≡ declaration_text tree ys
  pub alone : Alone tree ys
