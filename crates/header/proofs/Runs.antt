-- A run of bytes that ends at a byte of another class is the longest, so a line has one key and one value.
use Rattle.std.proofs.Common.{◌≡◌, ℕ, ◌<◌, List, [], ◌∷◌, ◌++◌, length, sym, refl, ap, ◌∙◌, subst, append_assoc, arith}
use Rattle.std.specs.List.{AllByRecursion}
use Rattle.classes.specs.Runs.{LongestRun}
use Rattle.header.specs.Bytes.{In}
use Rattle.header.specs.Lines.{Begins, written, LineIs, NoLine, OnlyLine, terminator}
use Rattle.header.specs.declared.text.Class.TheVariants.{Key, Value}

-- a run up to a byte that is not of P is the longest one
pub ran_is : (P : ℕ → Type 0) (bs front back k t : List ℕ) (x : ℕ) → LongestRun P bs front back → AllByRecursion P k → (P x → ⊥) → bs ≡ k ++ x ∷ t → (front ≡ k) × (back ≡ x ∷ t)
ran_is P bs front back k t x r ak nx e = go front k r.all ak (sym r.whole ∙ e)
  where
    go : (f k : List ℕ) → AllByRecursion P f → AllByRecursion P k → f ++ back ≡ k ++ x ∷ t → (f ≡ k) × (back ≡ x ∷ t)
    go [] [] a b e = (refl, e)
    go [] (y ∷ k) a b e = absurd (r.stops y _ e b.0)
    go (y ∷ f) [] a b e = let first : y ≡ x = cc in absurd (nx (subst P first a.0))
    go (y ∷ f) (z ∷ k) a b e =
        let first : y ≡ z = cc in
        let tails : f ++ back ≡ k ++ x ∷ t = cc in
        let rest = go f k a.1 b.1 tails in
        let same : y ∷ f ≡ z ∷ k = cc (rest.0, first) in
        (same, rest.1)

pub not_key_32 : In Key 32 → ⊥
not_key_32 h = omega arith

pub not_value_10 : In Value 10 → ⊥
not_value_10 h = omega arith

-- the line as it lies in the bytes
pub written_laid : (key value rest : List ℕ) → written key value ++ rest ≡ key ++ (32 ∷ 58 ∷ 61 ∷ 32 ∷ (value ++ 10 ∷ rest))
written_laid key value rest = simp append_assoc

module _ {bs front back : List ℕ} (ran : LongestRun (In Key) bs front back) where
  -- where a line stands, the key's run is its key, and behind it stands the rest of the line
  pub key_is : (key value : List ℕ) → LineIs bs key value → (rest : List ℕ) × (front ≡ key) × (back ≡ 32 ∷ 58 ∷ 61 ∷ 32 ∷ (value ++ 10 ∷ rest))
  key_is key value l =
      let r = ran_is (In Key) bs front back key _ 32 ran l.key_bytes not_key_32 (l.stands.1 ∙ written_laid key value l.stands.0) in
      (l.stands.0, r.0, r.1)

  pub none_no_separator : ((rest : List ℕ) → back ≡ (32 ∷ 58 ∷ 61 ∷ 32 ∷ []) ++ rest → ⊥) → NoLine bs
  none_no_separator hole key value l = let k = key_is key value l in hole _ k.2

  module _ {tail vfront vback : List ℕ} (separated : back ≡ (32 ∷ 58 ∷ 61 ∷ 32 ∷ []) ++ tail) (vran : LongestRun (In Value) tail vfront vback) where
    value_is : (key value : List ℕ) → LineIs bs key value → (rest : List ℕ) × (front ≡ key) × (vfront ≡ value) × (vback ≡ 10 ∷ rest)
    value_is key value l =
        let k = key_is key value l in
        let tails : tail ≡ value ++ 10 ∷ k.0 = cc (separated, k.2) in
        let r = ran_is (In Value) tail vfront vback value _ 10 vran l.value_bytes not_value_10 tails in
        (k.0, k.1, r.0, r.1)

    pub none_no_line_feed : ((rest : List ℕ) → vback ≡ (10 ∷ []) ++ rest → ⊥) → NoLine bs
    none_no_line_feed hole key value l = let v = value_is key value l in hole _ v.3

    pub none_empty : ((0 < length front) × (0 < length vfront) → ⊥) → NoLine bs
    none_empty hole key value l =
        let v = value_is key value l in
        hole (omega (arith, l.some_key, ap length v.1), omega (arith, l.some_value, ap length v.2))

    pub only_line : (rest : List ℕ) → 0 < length front → 0 < length vfront → vback ≡ (10 ∷ []) ++ rest → OnlyLine bs front vfront rest
    only_line rest some some_value ended =
        let whole : bs ≡ written front vfront ++ rest = ran.whole ∙ ap (λ l. front ++ l) (separated ∙ ap (λ l. 32 ∷ 58 ∷ 61 ∷ 32 ∷ l) (vran.whole ∙ ap (λ l. vfront ++ l) ended)) ∙ sym (written_laid front vfront rest) in
        record {
          is = record { some_key = some; key_bytes = ran.all; some_value = some_value; value_bytes = vran.all; stands = (rest, whole) };
          whole = whole;
          only = λ k v l. let i = value_is k v l in (sym i.1, sym i.2);
        }

-- at most one line stands at the front
pub same_line : (bs k v k' v' : List ℕ) → LineIs bs k v → LineIs bs k' v' → (k ≡ k') × (v ≡ v')
same_line bs k v k' v' a b =
    let ran : LongestRun (In Key) bs k (32 ∷ 58 ∷ 61 ∷ 32 ∷ (v ++ 10 ∷ a.stands.0)) = record { whole = a.stands.1 ∙ written_laid k v a.stands.0; all = a.key_bytes; stops = λ x rest e h. let first : 32 ≡ x = cc in not_key_32 (subst (In Key) (sym first) h) } in
    let vran : LongestRun (In Value) (v ++ 10 ∷ a.stands.0) v (10 ∷ a.stands.0) = record { whole = refl; all = a.value_bytes; stops = λ x rest e h. let first : 10 ≡ x = cc in not_value_10 (subst (In Value) (sym first) h) } in
    let i = value_is ran refl vran k' v' b in
    (i.1, i.2)

-- a key does not begin with 0C
pub terminator_no_line : (bs k v : List ℕ) → Begins bs terminator → LineIs bs k v → ⊥
terminator_no_line bs [] v b l = omega (arith, l.some_key)
terminator_no_line bs (x ∷ k) v b l =
    let first : x ≡ 12 = cc (l.stands.1, b.1) in
    let key : In Key 12 = subst (In Key) first l.key_bytes.0 in
    omega (arith, key)
