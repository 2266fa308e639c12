-- What it is to read something that a text begins with.
-- A form relates two lists: the first begins with a thing of the form, and the second is what is left behind it.
use Rattle.std.specs.Borrow.{Bor}
use Rattle.std.specs.Prelude.{◌≡◌, ℕ, Bool, true, false, List, [], ◌∷◌, ◌++◌, Option, MatchOption}
use Rattle.classes.specs.Runs.{LongestRun}

-- what a thing is written as: the text that begins with it, and the rest
abbrev pub Form : Type 1
Form = List ℕ → List ℕ → Type 0

-- xs begins with a thing of the form G, and ys is left behind it, and nothing else
pub record Ends (G : Form) (xs ys : List ℕ) : Type 0 where
  pub is : G xs ys
  pub only : (zs : List ℕ) → G xs zs → zs ≡ ys

-- xs begins with nothing of the form G
abbrev pub Missing : Form → List ℕ → Type 0
Missing G xs = (ys : List ℕ) → G xs ys → ⊥

-- r is what is left behind the thing of the form G that xs begins with, if there is one
abbrev pub Reads : Form → List ℕ → Option (Bor (List ℕ)) → Type 0
Reads G xs r = MatchOption r (Missing G xs) (λ ys. Ends G xs ys.now)

-- a form that also tells a part of its thing, as a name
abbrev pub Told : Type 1
Told = List ℕ → List ℕ → List ℕ → Type 0

-- r is that part, and what is left behind the thing that xs begins with, if there is one
abbrev pub Tells : Told → List ℕ → Option (Bor (List ℕ) × Bor (List ℕ)) → Type 0
Tells T xs r = MatchOption r ((part ys : List ℕ) → T xs part ys → ⊥) (λ p. T xs p.0.now p.1.now)

-- the given bytes
abbrev pub Literal : List ℕ → Form
Literal bytes xs ys = xs ≡ bytes ++ ys

-- the list begins with the bytes
abbrev pub Begins : List ℕ → List ℕ → Type 0
Begins bytes xs = (rest : List ℕ) × (xs ≡ bytes ++ rest)

-- whether the list begins with a byte of the kind p
abbrev pub begins : (ℕ → Bool) → List ℕ → Bool
begins p [] = false
begins p (b ∷ bs) = p b

-- the longest run of bytes of the kind p
pub record Span (p : ℕ → Bool) (xs ys : List ℕ) : Type 0 where
  pub run : List ℕ
  pub longest : LongestRun (λ b. p b ≡ true) xs run ys

-- one thing, and then another
abbrev pub Then : Form → Form → Form
Then G H xs zs = (ys : List ℕ) × G xs ys × H ys zs
