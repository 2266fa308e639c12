-- The forms of names, values and end tags.
use Rattle.std.proofs.Common.{◌≡◌, ℕ, Bool, true, false, ◌⊎◌, List, [], ◌∷◌, ◌++◌, ◌≤◌, length, get_or, sym, refl, ap, ◌∙◌, subst, arith}
use Rattle.std.proofs.lemmas.Bool.{eq-eqb}
use Rattle.classes.specs.Runs.{LongestRun}
use Rattle.xml.specs.Bytes.{AllOf, white, name_start_byte, value_byte}
use Rattle.xml.specs.Reads.{Form, Literal, begins, Span, Ends, Then}
use Rattle.xml.specs.Grammar.{IsName}
use Rattle.xml.specs.Forms.{Named, NameForm, QuotedForm, ValueForm, EndForm}
use Rattle.xml.proofs.Steps.{span_is, Same, tails, heads, same_run, run_stops, first_more}

-- names
pub name_told : (p : ℕ → Bool) (xs run ys : List ℕ) → LongestRun (λ b. p b ≡ true) xs run ys → 1 ≤ length xs → p (get_or xs 0 0) ≡ true → name_start_byte (get_or xs 0 0) ≡ true → Named p xs run ys
name_told p xs run ys l h i t = record { good = good run l.all l.whole; is = l.whole; stops = run_stops p xs run ys l }
  where
    good : (run : List ℕ) → AllOf p run → xs ≡ run ++ ys → IsName p run
    good [] a w = absurd (l.stops (get_or xs 0 0) _ (sym w ∙ first_more xs h) i)
    good (b ∷ bs) a w = (sym (ap (λ r. name_start_byte (get_or r 0 0)) w) ∙ t, a.1)

-- none stands there, where the text does not begin as a name does
pub name_none : (p : ℕ → Bool) (xs : List ℕ) → (1 ≤ length xs → name_start_byte (get_or xs 0 0) ≡ true → ⊥) → (name zs : List ℕ) → Named p xs name zs → ⊥
name_none p xs unnamed name zs n = go name n.good n.is
  where
    go : (w : List ℕ) → IsName p w → xs ≡ w ++ zs → ⊥
    go [] g e = g
    go (b ∷ w) g e = unnamed (omega (arith, ap length e)) (ap (λ r. name_start_byte (get_or r 0 0)) e ∙ g.0)

pub name_ends : (p : ℕ → Bool) (xs name ys : List ℕ) → Named p xs name ys → Ends (NameForm p) xs ys
name_ends p xs name ys n = record { is = (name, n); only = λ zs f. go name f.0 n.good f.1.good f.1.stops (sym n.is ∙ f.1.is) }
  where
    go : {zs : List ℕ} (v w : List ℕ) → IsName p v → IsName p w → begins p zs ≡ false → v ++ ys ≡ w ++ zs → zs ≡ ys
    go [] w g h f e = absurd g
    go (x ∷ v) [] g h f e = absurd h
    go {zs} (x ∷ v) (y ∷ w) g h f e = same_run p v w ys zs g.1 h.1 n.stops f (tails e)

-- values
pub quoted_stops : (q : ℕ) (ys : List ℕ) → begins (value_byte q) (q ∷ ys) ≡ false
quoted_stops q ys = grind (arith, eq-eqb q q refl)

-- a value in quotes q, behind the first of them
abbrev pub InQuotes : ℕ → Form
InQuotes q = Then (Span (value_byte q)) (Literal (q ∷ []))

pub value_same : (q : ℕ) (xs : List ℕ) → (q ≡ 34) ⊎ (q ≡ 39) → Same ValueForm (q ∷ xs) (InQuotes q) xs
value_same q xs quote ys = (
  λ v.
      let e : v.0 ≡ q = sym (heads v.2.is) in
      let f : QuotedForm q (q ∷ xs) ys = subst (λ z. QuotedForm z (q ∷ xs) ys) e v.2 in
      (q ∷ ys, span_is (value_byte q) xs f.value (q ∷ ys) f.good (tails f.is) (quoted_stops q ys), refl),
  λ t. (q, quote, record { value = t.1.run; good = t.1.longest.all; is = ap (λ l. q ∷ l) (t.1.longest.whole ∙ ap (λ l. t.1.run ++ l) t.2) }),
)

-- end tags
abbrev pub EndChain : List ℕ → Form
EndChain name = Then (Literal (60 ∷ 47 ∷ [])) (Then (Literal name) (Then (Span white) (Literal (62 ∷ []))))

pub end_same : (name xs : List ℕ) → Same (EndForm name) xs (EndChain name) xs
end_same name xs ys = (
  λ f. (name ++ (f.space ++ (62 ∷ ys)), f.is, (f.space ++ (62 ∷ ys), refl, (62 ∷ ys, span_is white _ f.space _ f.good refl refl, refl))),
  λ t.
      let u = t.2 in
      let v = u.2 in
      record { space = v.1.run; good = v.1.longest.all; is = t.1 ∙ ap (λ l. 60 ∷ 47 ∷ l) (u.1 ∙ ap (λ l. name ++ l) (v.1.longest.whole ∙ ap (λ l. v.1.run ++ l) v.2)) },
)
