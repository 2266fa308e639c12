-- What stands in a tag after its name.
use Rattle.std.proofs.Common.{◌≡◌, ℕ, ◌<◌, Bool, true, false, ◌⊎◌, List, [], ◌∷◌, ◌++◌, length, sym, refl, ap, ◌∙◌, subst, inl, inr, ⊎_elim, arith}
use Rattle.std.specs.List.{AllByRecursion}
use Rattle.std.proofs.lemmas.Bool.{both_ways}
use Rattle.classes.specs.Runs.{LongestRun}
use Rattle.xml.specs.Bytes.{AllOf, white, name_start_byte, name_byte, attribute_byte, tag_end}
use Rattle.xml.specs.Reads.{begins, Span, Ends, Missing}
use Rattle.xml.specs.Grammar.{IsName, Attribute, attribute_text, GoodAttribute, attributes_text}
use Rattle.xml.specs.Forms.{AttributeForm, TailForm}
use Rattle.xml.proofs.Steps.{Same, longest, run_stops, span_is, span_only}

-- the classes share no byte
pub start_not_white : (b : ℕ) → name_start_byte b ≡ true → white b ≡ false
start_not_white b h = grind arith

pub end_not_white : (b : ℕ) → tag_end b ≡ true → white b ≡ false
end_not_white b h = grind arith

pub end_not_name : (b : ℕ) → tag_end b ≡ true → name_byte b ≡ false
end_not_name b h =
    let two : (b ≡ 62) ⊎ (b ≡ 47) = grind arith in
    ⊎_elim (λ e. ap name_byte e) (λ e. ap name_byte e) two

pub start_not_end : (b : ℕ) → name_start_byte b ≡ true → tag_end b ≡ false
start_not_end b h = grind arith

-- white space is four bytes
pub white_not : (p : ℕ → Bool) → p 32 ≡ false → p 9 ≡ false → p 10 ≡ false → p 13 ≡ false → (b : ℕ) → white b ≡ true → p b ≡ false
white_not p h₁ h₂ h₃ h₄ b w =
    let four : (b ≡ 32) ⊎ ((b ≡ 9) ⊎ ((b ≡ 10) ⊎ (b ≡ 13))) = grind arith in
    ⊎_elim (λ e. ap p e ∙ h₁) (λ r. ⊎_elim (λ e. ap p e ∙ h₂) (λ r. ⊎_elim (λ e. ap p e ∙ h₃) (λ e. ap p e ∙ h₄) r) r) four

-- a list that begins with one kind begins with no kind apart from it
pub begins_not : (p q : ℕ → Bool) → ((b : ℕ) → p b ≡ true → q b ≡ false) → (xs : List ℕ) → begins p xs ≡ true → begins q xs ≡ false
begins_not p q h [] t = refl
begins_not p q h (b ∷ xs) t = h b t

-- a name begins with a byte that names start with
pub begins_name : (p : ℕ → Bool) (w ys : List ℕ) → IsName p w → begins name_start_byte (w ++ ys) ≡ true
begins_name p [] ys g = absurd g
begins_name p (b ∷ w) ys g = g.0

-- white space, and then what does not begin with the kind
pub past_white : (p : ℕ → Bool) → ((b : ℕ) → white b ≡ true → p b ≡ false) → (w ys : List ℕ) → AllOf white w → begins p ys ≡ false → begins p (w ++ ys) ≡ false
past_white p h [] ys a f = f
past_white p h (b ∷ w) ys a f = h b a.0

-- white space begins with white space
pub begins_gap : (w ys : List ℕ) → 0 < length w → AllOf white w → begins white (w ++ ys) ≡ true
begins_gap [] ys h a = absurd (omega arith)
begins_gap (b ∷ w) ys h a = a.0

-- a quote is no white space
pub begins_quote : (q : ℕ) (ys : List ℕ) → (q ≡ 34) ⊎ (q ≡ 39) → begins white (q ∷ ys) ≡ false
begins_quote q ys e = ⊎_elim (λ h. ap white h) (λ h. ap white h) e

-- what follows an attribute's name
abbrev pub sign : Attribute → List ℕ → List ℕ
sign a rest = a.before ++ (61 ∷ (a.after ++ (a.quote ∷ (a.value ++ (a.quote ∷ rest)))))

-- an attribute past its gap
abbrev body : Attribute → List ℕ → List ℕ
body a rest = a.name ++ sign a rest

body_form : (a : Attribute) → GoodAttribute a → (rest : List ℕ) → AttributeForm (body a rest) rest
body_form a g rest =
    let last = a.quote ∷ (a.value ++ (a.quote ∷ rest)) in
    let value = a.after ++ last in (
      a.before ++ (61 ∷ value),
      (a.name, record { good = g.name; is = refl; stops = past_white attribute_byte (white_not attribute_byte refl refl refl refl) a.before (61 ∷ value) g.before refl }),
      (
        61 ∷ value,
        span_is white _ a.before _ g.before refl refl,
        (
          value,
          refl,
          (
            last,
            span_is white _ a.after _ g.after refl (begins_quote a.quote (a.value ++ (a.quote ∷ rest)) g.quote),
            (a.quote, g.quote, record { value = a.value; good = g.value; is = refl }),
          ),
        ),
      ),
    )

form_body : (gap xs ys : List ℕ) → 0 < length gap → AllOf white gap → AttributeForm xs ys → (a : Attribute) × GoodAttribute a × (gap ++ xs ≡ attribute_text a ys)
form_body gap xs ys h all f =
    let n = f.1 in
    let f1 = f.2 in
    let f2 = f1.2 in
    let f3 = f2.2 in
    let v = f3.2 in (
      record { gap = gap; name = n.0; before = f1.1.run; after = f3.1.run; quote = v.0; value = v.2.value },
      record { apart = h; gap = all; name = n.1.good; before = f1.1.longest.all; after = f3.1.longest.all; quote = v.1; value = v.2.good },
      ap (λ l. gap ++ l) (n.1.is ∙ ap (λ l. n.0 ++ l) (f1.1.longest.whole ∙ ap (λ l. f1.1.run ++ l) (f2.1 ∙ ap (λ l. 61 ∷ l) (f3.1.longest.whole ∙ ap (λ l. f3.1.run ++ l) v.2.is)))),
    )

-- the white space that begins the rest of a tag, and then the tag's end
pub tail_stop : (xs zs : List ℕ) → Span white xs zs → begins tag_end zs ≡ true → TailForm xs zs
tail_stop xs zs s t = record { attributes = []; space = s.run; good = tt; white = s.longest.all; is = s.longest.whole; ends = t }

-- the first attribute, where the tag does not end after the white space
pub record First (xs zs ys : List ℕ) : Type 0 where
  pub rest : List ℕ
  pub form : AttributeForm zs rest
  pub tail : TailForm rest ys
  pub apart : begins white xs ≡ true

pub tail_first : (xs zs ys : List ℕ) → Span white xs zs → TailForm xs ys → (ys ≡ zs) ⊎ (First xs zs ys × (begins tag_end zs ≡ false))
tail_first xs zs ys s f = go f.attributes f.good f.is
  where
    go : (as' : List Attribute) → AllByRecursion GoodAttribute as' → xs ≡ attributes_text as' (f.space ++ ys) → (ys ≡ zs) ⊎ (First xs zs ys × (begins tag_end zs ≡ false))
    go [] g e = inl (span_only white xs zs ys s (span_is white xs f.space ys f.white e (begins_not tag_end white end_not_white ys f.ends)))
    go (a ∷ more) g e =
        let rest = attributes_text more (f.space ++ ys) in
        let named = begins_name attribute_byte a.name (a.before ++ (61 ∷ (a.after ++ (a.quote ∷ (a.value ++ (a.quote ∷ rest)))))) g.0.name in
        let same : body a rest ≡ zs = span_only white xs zs (body a rest) s (span_is white xs a.gap (body a rest) g.0.gap e (begins_not name_start_byte white start_not_white (body a rest) named)) in
        inr (
          record {
            rest = rest;
            form = subst (λ l. AttributeForm l rest) same (body_form a g.0 rest);
            tail = record { attributes = more; space = f.space; good = g.1; white = f.white; is = refl; ends = f.ends };
            apart = ap (begins white) e ∙ begins_gap a.gap (body a rest) g.0.apart g.0.gap;
          },
          begins_not name_start_byte tag_end start_not_end zs (ap (begins name_start_byte) (sym same) ∙ named),
        )

pub tail_only : (xs zs ys : List ℕ) → Span white xs zs → begins tag_end zs ≡ true → TailForm xs ys → ys ≡ zs
tail_only xs zs ys s t f = ⊎_elim (λ e. e) (λ p. absurd (both_ways _ p.1 t)) (tail_first xs zs ys s f)

pub tail_more : (xs zs ys : List ℕ) → Span white xs zs → begins tag_end zs ≡ false → TailForm xs ys → First xs zs ys
tail_more xs zs ys s t f = ⊎_elim (λ e. absurd (both_ways _ t (sym (ap (begins tag_end) e) ∙ f.ends))) (λ p. p.0) (tail_first xs zs ys s f)

-- white space, and then the tag's end
pub tail_ends : (xs zs : List ℕ) → Span white xs zs → begins tag_end zs ≡ true → Ends TailForm xs zs
tail_ends xs zs s t = record { is = tail_stop xs zs s t; only = λ ys f. tail_only xs zs ys s t f }

-- an attribute stands apart from what comes before it
pub tail_none : (xs run zs : List ℕ) → LongestRun (λ b. white b ≡ true) xs run zs → length run ≡ 0 → begins tag_end zs ≡ false → Missing TailForm xs
tail_none xs run zs l none t ys f = both_ways _ (go run l.whole none) (tail_more xs zs ys s t f).apart
  where
    s : Span white xs zs
    s = longest white xs run zs l

    go : (run : List ℕ) → xs ≡ run ++ zs → length run ≡ 0 → begins white xs ≡ false
    go [] e h = ap (begins white) e ∙ run_stops white xs _ zs l
    go (b ∷ run) e h = absurd (omega (arith, h))

-- behind white space and an attribute the rest of the tag goes on
pub tail_step : (xs run zs ys : List ℕ) → LongestRun (λ b. white b ≡ true) xs run zs → 0 < length run → begins tag_end zs ≡ false → Ends AttributeForm zs ys → Same TailForm xs TailForm ys
tail_step xs run zs ys l some t a ws = (
  λ f. let first = tail_more xs zs ws (longest white xs run zs l) t f in subst (λ l. TailForm l ws) (a.only first.rest first.form) first.tail,
  λ f.
      let b = form_body run zs ys some l.all a.is in
      record { attributes = b.0 ∷ f.attributes; space = f.space; good = (b.1, f.good); white = f.white; is = l.whole ∙ b.2 ∙ ap (attribute_text b.0) f.is; ends = f.ends },
)
