-- The grammar of the XML block: trees, the text that each is written as, and which trees are well formed.
-- A text is given with what follows it: `tree_text t rest` is the text of t, and then rest.
use Rattle.std.specs.Prelude.{◌≡◌, ℕ, ◌-◌, ◌<◌, Bool, true, ◌⊎◌, List, [], ◌∷◌, ◌++◌, length, codes, ◌≢◌}
use Rattle.std.specs.List.{AllByRecursion}
use Rattle.xml.specs.Bytes.{AllOf, white, name_start_byte, name_byte, attribute_byte, text_byte, value_byte}

-- how many elements may stand inside one another, the root included
abbrev pub most_depth : ℕ
most_depth = 16

-- a name: a byte that names start with, and then bytes of the kind p
abbrev pub IsName : (ℕ → Bool) → List ℕ → Type 0
IsName p [] = ⊥
IsName p (b ∷ bs) = (name_start_byte b ≡ true) × AllOf p bs

-- an attribute: white space, a name, `=` with white space round it, and a value between two quotes
pub record Attribute : Type 0 where
  pub gap : List ℕ
  pub name : List ℕ
  pub before : List ℕ
  pub after : List ℕ
  pub quote : ℕ
  pub value : List ℕ

-- an attribute's text: gap, name, before, `=`, after, and the value in its quotes
abbrev pub attribute_text : Attribute → List ℕ → List ℕ
attribute_text a rest = a.gap ++ (a.name ++ (a.before ++ (61 ∷ (a.after ++ (a.quote ∷ (a.value ++ (a.quote ∷ rest)))))))

-- white space comes before the attribute, and its value holds neither its quote, `"` or `'`, nor `<`
pub record GoodAttribute (a : Attribute) : Type 0 where
  pub apart : 0 < length a.gap
  pub gap : AllOf white a.gap
  pub name : IsName attribute_byte a.name
  pub before : AllOf white a.before
  pub after : AllOf white a.after
  pub quote : (a.quote ≡ 34) ⊎ (a.quote ≡ 39)
  pub value : AllOf (value_byte a.quote) a.value

-- attributes, one behind the other
abbrev pub attributes_text : List Attribute → List ℕ → List ℕ
attributes_text [] rest = rest
attributes_text (a ∷ more) rest = attribute_text a (attributes_text more rest)

-- what stands between the `<` and the `>` or `/>` of a tag
pub record Tag : Type 0 where
  pub name : List ℕ
  pub attributes : List Attribute
  pub space : List ℕ

-- a tag's text: name, attributes, white space
abbrev pub tag_text : Tag → List ℕ → List ℕ
tag_text t rest = t.name ++ attributes_text t.attributes (t.space ++ rest)

-- the tag of an element: its name has no colon
pub record GoodTag (t : Tag) : Type 0 where
  pub name : IsName name_byte t.name
  pub attributes : AllByRecursion GoodAttribute t.attributes
  pub space : AllOf white t.space

-- the five references
pub data Entity : Type 0 where
  lt : Entity
  gt : Entity
  amp : Entity
  quot : Entity
  apos : Entity

-- the name of a reference
abbrev pub entity_name : Entity → List ℕ
entity_name lt = codes "lt"
entity_name gt = codes "gt"
entity_name amp = codes "amp"
entity_name quot = codes "quot"
entity_name apos = codes "apos"

-- a reference's text: `&`, its name and `;`
abbrev pub entity_text : Entity → List ℕ → List ℕ
entity_text e rest = 38 ∷ (entity_name e ++ (59 ∷ rest))

-- nowhere in the list stands a right before b
abbrev pub NoPair : ℕ → ℕ → List ℕ → Type 0
NoPair a b [] = Unit {0}
NoPair a b (x ∷ []) = Unit {0}
NoPair a b (x ∷ y ∷ xs) = (x ≡ a → y ≢ b) × NoPair a b (y ∷ xs)

-- a comment's text: `<!--`, the body and `-->`
abbrev pub comment_text : List ℕ → List ℕ → List ℕ
comment_text body rest = codes "<!--" ++ (body ++ (codes "-->" ++ rest))

-- the `--` of the comment's end is the first behind `<!--`
abbrev pub GoodComment : List ℕ → Type 0
GoodComment body = NoPair 45 45 (body ++ 45 ∷ [])

-- an element, and what it holds: bytes of text, references, comments and child elements, one behind the other
mutual
  pub data Tree : Type 0 where
    empty : Tag → Tree
    full : Tag → Content → List ℕ → Tree

  pub data Content : Type 0 where
    nothing : Content
    byte : ℕ → Content → Content
    reference : Entity → Content → Content
    comment : List ℕ → Content → Content
    child : Tree → Content → Content

-- an element's text: `<tag/>`, or `<tag>`, the content and `</name>` with white space before the last `>`
abbrev mutual
  pub tree_text : Tree → List ℕ → List ℕ
  tree_text (empty t) rest = 60 ∷ tag_text t (47 ∷ 62 ∷ rest)
  tree_text (full t c space) rest = 60 ∷ tag_text t (62 ∷ content_text c (60 ∷ 47 ∷ (t.name ++ (space ++ (62 ∷ rest)))))

  pub content_text : Content → List ℕ → List ℕ
  content_text nothing rest = rest
  content_text (byte b c) rest = b ∷ content_text c rest
  content_text (reference e c) rest = entity_text e (content_text c rest)
  content_text (comment body c) rest = comment_text body (content_text c rest)
  content_text (child t c) rest = tree_text t (content_text c rest)

-- well formed, with at most `depth` elements inside one another
abbrev mutual
  pub GoodTree : Tree → ℕ → Type 0
  GoodTree (empty t) depth = (0 < depth) × GoodTag t
  GoodTree (full t c space) depth = (0 < depth) × GoodTag t × GoodContent c (depth - 1) × AllOf white space

  pub GoodContent : Content → ℕ → Type 0
  GoodContent nothing depth = Unit {0}
  GoodContent (byte b c) depth = (text_byte b ≡ true) × GoodContent c depth
  GoodContent (reference e c) depth = GoodContent c depth
  GoodContent (comment body c) depth = GoodComment body × GoodContent c depth
  GoodContent (child t c) depth = GoodTree t depth × GoodContent c depth

-- what may stand round the root: white space and comments
pub data Misc : Type 0 where
  done : Misc
  space : ℕ → Misc → Misc
  note : List ℕ → Misc → Misc

-- its text
abbrev pub misc_text : Misc → List ℕ → List ℕ
misc_text done rest = rest
misc_text (space b m) rest = b ∷ misc_text m rest
misc_text (note body m) rest = comment_text body (misc_text m rest)

-- its bytes are white space and its comments good
abbrev pub GoodMisc : Misc → Type 0
GoodMisc done = Unit {0}
GoodMisc (space b m) = (white b ≡ true) × GoodMisc m
GoodMisc (note body m) = GoodComment body × GoodMisc m

-- the declaration, which may be left out
pub data Declaration : Type 0 where
  absent : Declaration
  present : List ℕ → Declaration

-- its text: `<?xml`, any bytes and `?>`
abbrev pub declaration_text : Declaration → List ℕ → List ℕ
declaration_text absent rest = rest
declaration_text (present body) rest = codes "<?xml" ++ (body ++ (codes "?>" ++ rest))

-- the `?>` of the declaration's end is the first behind `<?xml`
abbrev pub GoodDeclaration : Declaration → Type 0
GoodDeclaration absent = Unit {0}
GoodDeclaration (present body) = NoPair 63 62 (body ++ 63 ∷ [])

-- a document: a declaration, and the root with white space and comments round it
pub record Document : Type 0 where
  pub head : Declaration
  pub before : Misc
  pub root : Tree
  pub after : Misc

-- the whole text of a document
abbrev pub document_text : Document → List ℕ
document_text d = declaration_text d.head (misc_text d.before (tree_text d.root (misc_text d.after [])))

-- a well formed document
pub record GoodDocument (d : Document) : Type 0 where
  pub head : GoodDeclaration d.head
  pub before : GoodMisc d.before
  pub root : GoodTree d.root most_depth
  pub after : GoodMisc d.after

-- the text is that of a well formed document
pub record IsDocument (text : List ℕ) : Type 0 where
  pub tree : Document
  pub good : GoodDocument tree
  pub is : text ≡ document_text tree

-- a text has at most one tree
abbrev pub OneTree : List ℕ → Type 0
OneTree text = (d k : Document) → GoodDocument d → GoodDocument k → text ≡ document_text d → text ≡ document_text k → d ≡ k
