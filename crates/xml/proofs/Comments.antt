-- Pairs and comments.
use Rattle.std.proofs.Common.{◌≡◌, ℕ, zero, suc, ◌+◌, ◌-◌, ◌<◌, ◌≤◌, List, [], ◌∷◌, ◌++◌, length, get_or, take, drop, codes, sym, refl, ap, ◌∙◌, subst, arith}
use Rattle.std.proofs.lemmas.Grind.{common_steps}
use native.Mathlib.Numerals.{unary_clauses}
use Rattle.xml.specs.Reads.{Form, Literal, Begins, Ends, Missing, Then}
use Rattle.xml.specs.Grammar.{NoPair}
use Rattle.xml.specs.Forms.{PairForm, CommentForm}
use Rattle.xml.proofs.Steps.{Same, ends_as, tails, heads, no_cons}

-- pairs
pub no_pair_tail : (a b x : ℕ) (xs : List ℕ) → NoPair a b (x ∷ xs) → NoPair a b xs
no_pair_tail a b x [] n = tt
no_pair_tail a b x (y ∷ xs) n = n.1

pub pair_none : (a b : ℕ) (ys : List ℕ) → PairForm a b [] ys → ⊥
pair_none a b ys f = go f.body f.is
  where
    go : (w : List ℕ) → [] ≡ w ++ (a ∷ b ∷ ys) → ⊥
    go [] e = no_cons e
    go (x ∷ w) e = no_cons e

pub pair_more : (a b x : ℕ) (xs : List ℕ) → (Begins (a ∷ b ∷ []) (x ∷ xs) → ⊥) → Same (PairForm a b) (x ∷ xs) (PairForm a b) xs
pair_more a b x xs no_begin ys = (λ f. to f.body f.first f.is, λ f. record { body = x ∷ f.body; first = fro f.body f.first f.is; is = ap (λ l. x ∷ l) f.is })
  where
    to : (w : List ℕ) → NoPair a b (w ++ a ∷ []) → x ∷ xs ≡ w ++ (a ∷ b ∷ ys) → PairForm a b xs ys
    to [] n e = absurd (no_begin (ys, e))
    to (c ∷ w) n e = record { body = w; first = no_pair_tail a b c (w ++ a ∷ []) n; is = tails e }

    fro : (w : List ℕ) → NoPair a b (w ++ a ∷ []) → xs ≡ w ++ (a ∷ b ∷ ys) → NoPair a b (x ∷ (w ++ a ∷ []))
    fro [] n e = (λ p q. no_begin (b ∷ ys, (λ i. p i ∷ e i) ∙ ap (λ z. a ∷ z ∷ b ∷ ys) q), n)
    fro (c ∷ w) n e = (λ p q. no_begin (w ++ (a ∷ b ∷ ys), (λ i. p i ∷ e i) ∙ ap (λ z. a ∷ z ∷ (w ++ (a ∷ b ∷ ys))) q), n)

pub pair_here : (a b : ℕ) (xs ys rest : List ℕ) → xs ≡ a ∷ b ∷ rest → PairForm a b xs ys → ys ≡ rest
pair_here a b xs ys rest h f = go f.body f.first (sym f.is ∙ h)
  where
    go : (w : List ℕ) → NoPair a b (w ++ a ∷ []) → w ++ (a ∷ b ∷ ys) ≡ a ∷ b ∷ rest → ys ≡ rest
    go [] n e = tails (tails e)
    go (c ∷ []) n e = absurd (n.0 (heads e) (heads (tails e)))
    go (c ∷ d ∷ w) n e = absurd (n.0 (heads e) (heads (tails e)))

-- a and then b stand at the index k
abbrev pub IsPair : ℕ → ℕ → List ℕ → ℕ → Type 0
IsPair a b xs k = (get_or xs k 0 ≡ a) × (get_or xs (k + 1) 0 ≡ b)

-- where they stand at no index, there is no pair
pub pair_missing : (a b : ℕ) (xs : List ℕ) → ((k : ℕ) → k + 1 < length xs → IsPair a b xs k → ⊥) → Missing (PairForm a b) xs
pair_missing a b [] n ys f = pair_none a b ys f
pair_missing a b (x ∷ xs) n ys f = pair_missing a b xs (λ k h p. n (suc k) (omega (arith, h)) (p.0, simp unary_clauses (simp unary_clauses at p.1))) ys ((pair_more a b x xs (λ s. n 0 (omega (arith, ap length s.1)) (heads s.1, ap (λ l. get_or l 1 0) s.1)) ys).0 f)

-- where they stand at i and at none before it, the first pair stands there
pub pair_found : (a b : ℕ) (xs : List ℕ) (i : ℕ) → i + 1 < length xs → IsPair a b xs i → ((k : ℕ) → k < i → IsPair a b xs k → ⊥) → Ends (PairForm a b) xs (drop (i + 2) xs)
pair_found a b [] i h p n = absurd (omega (arith, h))
pair_found a b (x ∷ []) zero h p n = absurd (omega (arith, h))
pair_found a b (x ∷ y ∷ xs) zero h p n =
    let here : x ∷ y ∷ xs ≡ a ∷ b ∷ xs = λ j. p.0 j ∷ p.1 j ∷ xs in
    record { is = record { body = []; first = tt; is = here }; only = λ ys f. pair_here a b (x ∷ y ∷ xs) ys xs here f }
pair_found a b (x ∷ xs) (suc i) h p n =
    let more = pair_found a b xs i (omega (arith, h)) (p.0, simp unary_clauses (simp unary_clauses at p.1)) (λ k l q. n (suc k) (omega (arith, l)) (q.0, simp unary_clauses (simp unary_clauses at q.1))) in
    let far : drop (i + 2) xs ≡ drop (suc i + 2) (x ∷ xs) = simp unary_clauses in
    let P : List ℕ → Type 0 = λ l. Ends (PairForm a b) (x ∷ xs) l in
    subst P far (ends_as (PairForm a b) (PairForm a b) (x ∷ xs) xs (drop (i + 2) xs) (pair_more a b x xs (λ s. n 0 (omega arith) (heads s.1, ap (λ l. get_or l 1 0) s.1))) more)

-- comments
abbrev pub CommentChain : Form
CommentChain = Then (Literal (codes "<!--")) (Then (PairForm 45 45) (Literal (62 ∷ [])))

pub comment_same : (xs : List ℕ) → Same CommentForm xs CommentChain xs
comment_same xs ys = (
  λ f. (f.body ++ (45 ∷ 45 ∷ 62 ∷ ys), f.is, (62 ∷ ys, record { body = f.body; first = f.good; is = refl }, refl)),
  λ t. record { body = t.2.1.body; good = t.2.1.first; is = t.1 ∙ ap (λ l. codes "<!--" ++ l) (t.2.1.is ∙ ap (λ l. t.2.1.body ++ (45 ∷ 45 ∷ l)) t.2.2) },
)

-- what a comment begins with, and the bytes behind it
pub comment_opens : (xs : List ℕ) → 4 ≤ length xs → get_or xs 0 0 ≡ 60 → get_or xs 1 0 ≡ 33 → get_or xs 2 0 ≡ 45 → get_or xs 3 0 ≡ 45 → xs ≡ codes "<!--" ++ take (length xs - 4) (drop 4 xs)
comment_opens [] n h i j k = absurd (omega (arith, n))
comment_opens (a ∷ []) n h i j k = absurd (omega (arith, n))
comment_opens (a ∷ b ∷ []) n h i j k = absurd (omega (arith, n))
comment_opens (a ∷ b ∷ c ∷ []) n h i j k = absurd (omega (arith, n))
comment_opens (a ∷ b ∷ c ∷ d ∷ xs) n h i j k = grind (arith, common_steps)
