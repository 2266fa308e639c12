-- What a reader has when a part of a text is read, and the longest runs of one kind of byte.
use Rattle.std.proofs.Common.{◌≡◌, ◌≢◌, ℕ, ◌+◌, ◌-◌, ◌≤◌, ◌<◌, Bool, true, false, eqb, ◌&&◌, fold, Decides, ◌↔◌, List, [], ◌∷◌, ◌++◌, length, get_or, take, drop, Some, None, Option, Bor, sym, refl, ap, ◌∙◌, subst, append_assoc, length-append, arith, MatchOption}
use Rattle.std.specs.List.{AllByRecursion}
use Rattle.std.proofs.ByRecursion.{All-append}
use Rattle.std.proofs.lemmas.List.{append_cancel_left, append_cancel_right, take_all}
use Rattle.std.proofs.lemmas.Bool.{both_ways, and_parts, and_from}
use Rattle.classes.specs.Runs.{LongestRun}
use Rattle.xml.specs.Reads.{Form, Literal, begins, Span, Ends, Missing, Reads, Then}
use Rattle.std.proofs.lemmas.Grind.{common_steps}
use Rattle.std.proofs.lemmas.Slice.Eq.{strip_prefix_is}
use Rattle.std.proofs.lemmas.Bool.Decides.{Decides-eqb}
use Rattle.std.specs.Cmp.Lexicographic.{pointwise}
use Rattle.xml.specs.Bytes.{AllOf}

pub tails : {x y : ℕ} {xs ys : List ℕ} → x ∷ xs ≡ y ∷ ys → xs ≡ ys
tails e = cc

pub heads : {x y : ℕ} {xs ys : List ℕ} → x ∷ xs ≡ y ∷ ys → x ≡ y
heads e = cc

pub no_cons : {x : ℕ} {xs : List ℕ} → [] ≡ x ∷ xs → ⊥
no_cons e = cc

-- one thing and then another
pub missing_first : (G H : Form) (xs : List ℕ) → Missing G xs → Missing (Then G H) xs
missing_first G H xs m ys t = m t.0 t.1

pub reads_then : (G H : Form) (xs ys : List ℕ) (r : Option (Bor (List ℕ))) → Ends G xs ys → Reads H ys r → Reads (Then G H) xs r
reads_then G H xs ys None g h = λ zs t. h zs (subst (λ l. H l zs) (g.only t.0 t.1) t.2)
reads_then G H xs ys (Some rest) g h = record { is = (ys, g.is, h.is); only = λ zs t. h.only zs (subst (λ l. H l zs) (g.only t.0 t.1) t.2) }

-- an answer that is None
pub cases_none : {A : Type 0} (o : Option A) (P : Type 0) (Q : A → Type 0) → o ≡ None → P → MatchOption o P Q
cases_none o P Q e p = subst (λ r. MatchOption r P Q) (sym e) p

pub reads_none : (G : Form) (xs : List ℕ) (r : Option (Bor (List ℕ))) → r ≡ None → Missing G xs → Reads G xs r
reads_none G xs r e m = cases_none r (Missing G xs) (λ ys. Ends G xs ys.now) e m

-- two forms that say the same of two texts
abbrev pub Same : Form → List ℕ → Form → List ℕ → Type 0
Same G xs H ys = (zs : List ℕ) → G xs zs ↔ H ys zs

pub ends_as : (G H : Form) (xs ys zs : List ℕ) → Same H xs G ys → Ends G ys zs → Ends H xs zs
ends_as G H xs ys zs same g = record { is = (same zs).1 g.is; only = λ ws h. g.only ws ((same ws).0 h) }

pub reads_as : (G H : Form) (xs ys : List ℕ) (r : Option (Bor (List ℕ))) → Same H xs G ys → Reads G ys r → Reads H xs r
reads_as G H xs ys None same g = λ zs h. g zs ((same zs).0 h)
reads_as G H xs ys (Some rest) same g = ends_as G H xs ys rest.now same g

-- the same in two steps
pub onward : (H : Form) (xs ys zs : List ℕ) → Same H xs H ys → Same H ys H zs → Same H xs H zs
onward H xs ys zs p q ws = (λ f. (q ws).0 ((p ws).0 f), λ f. (p ws).1 ((q ws).1 f))

-- where the form H begins with a thing of the form G, the rest of H is read behind it
pub step : (G H : Form) (xs ys : List ℕ) → Ends G xs ys → ((zs : List ℕ) → H xs zs → Then G H xs zs) → ((zs : List ℕ) → Then G H xs zs → H xs zs) → Same H xs H ys
step G H xs ys e split join zs = (λ f. let p = split zs f in subst (λ l. H l zs) (e.only p.0 p.1) p.2, λ f. join zs (ys, e.is, f))

-- runs
pub same_run : (p : ℕ → Bool) (r s ys zs : List ℕ) → AllOf p r → AllOf p s → begins p ys ≡ false → begins p zs ≡ false → r ++ ys ≡ s ++ zs → zs ≡ ys
same_run p [] [] ys zs a b c d e = sym e
same_run p [] (x ∷ s) ys zs a b c d e = let no_more : p x ≡ false = sym (ap (begins p) e) ∙ c in absurd (both_ways (p x) no_more b.0)
same_run p (x ∷ r) [] ys zs a b c d e = let no_more : p x ≡ false = ap (begins p) e ∙ d in absurd (both_ways (p x) no_more a.0)
same_run p (x ∷ r) (y ∷ s) ys zs a b c d e = same_run p r s ys zs a.1 b.1 c d (tails e)

-- a run of bytes of the kind p ends where the first other byte stands
pub run_unique : (p : ℕ → Bool) (r s ys zs : List ℕ) → AllOf p r → AllOf p s → begins p ys ≡ false → begins p zs ≡ false → r ++ ys ≡ s ++ zs → (r ≡ s) × (ys ≡ zs)
run_unique p r s ys zs a b c d e = let same = same_run p r s ys zs a b c d e in (append_cancel_right r s ys (e ∙ ap (λ l. s ++ l) same), sym same)

stops_here : (p : ℕ → Bool) (ys : List ℕ) → ((x : ℕ) (rest : List ℕ) → ys ≡ x ∷ rest → p x ≡ true → ⊥) → begins p ys ≡ false
stops_here p [] s = refl
stops_here p (y ∷ ys) s = go (p y) refl
  where
    go : (b : Bool) → p y ≡ b → p y ≡ false
    go true e = absurd (s y ys refl e)
    go false e = e

-- what a longest run of bytes of the kind p stops at
pub run_stops : (p : ℕ → Bool) (xs run ys : List ℕ) → LongestRun (λ b. p b ≡ true) xs run ys → begins p ys ≡ false
run_stops p xs run ys l = stops_here p ys l.stops

-- a run of bytes of the kind p in front of another byte is the longest
pub span_is : (p : ℕ → Bool) (xs run ys : List ℕ) → AllOf p run → xs ≡ run ++ ys → begins p ys ≡ false → Span p xs ys
span_is p xs run ys all whole stops = record {
  run = run;
  longest = record { whole = whole; all = all; stops = λ x rest e h. let other : p x ≡ false = sym (ap (begins p) e) ∙ stops in both_ways (p x) other h };
}

pub span_only : (p : ℕ → Bool) (xs ys zs : List ℕ) → Span p xs ys → Span p xs zs → zs ≡ ys
span_only p xs ys zs s t =
    same_run p s.run t.run ys zs s.longest.all t.longest.all (run_stops p xs s.run ys s.longest) (run_stops p xs t.run zs t.longest) (sym s.longest.whole ∙ t.longest.whole)

-- the longest run that a class of bytes was split off
pub longest : (p : ℕ → Bool) (xs run ys : List ℕ) → LongestRun (λ b. p b ≡ true) xs run ys → Span p xs ys
longest p xs run ys l = record { run = run; longest = l }

pub longest_ends : (p : ℕ → Bool) (xs run ys : List ℕ) → LongestRun (λ b. p b ≡ true) xs run ys → Ends (Span p) xs ys
longest_ends p xs run ys l = let s = longest p xs run ys l in record { is = s; only = λ zs t. span_only p xs ys zs s t }

-- a list is its first byte and the others, as a slice pattern cuts it
pub first_more : (xs : List ℕ) → 1 ≤ length xs → xs ≡ get_or xs 0 0 ∷ take (length xs - 1) (drop 1 xs)
first_more [] h = absurd (omega (arith, h))
first_more (x ∷ xs) h = grind (arith, common_steps)

-- what follows a run is shorter, where a byte of the run stands first
pub span_forward : (p : ℕ → Bool) (xs ys : List ℕ) → Span p xs ys → 1 ≤ length xs → p (get_or xs 0 0) ≡ true → length ys < length xs
span_forward p xs ys s h t = go s.run s.longest.whole
  where
    go : (run : List ℕ) → xs ≡ run ++ ys → length ys < length xs
    go [] w = absurd (s.longest.stops (get_or xs 0 0) _ (sym w ∙ first_more xs h) t)
    go (b ∷ bs) w = omega (arith, ap length w, length-append bs ys)

-- a run goes on in front of one
pub span_more : (p : ℕ → Bool) (front xs ys : List ℕ) → AllOf p front → Span p xs ys → Span p (front ++ xs) ys
span_more p front xs ys a s = record {
  run = front ++ s.run;
  longest = record {
    whole = ap (λ l. front ++ l) s.longest.whole ∙ sym (append_assoc front s.run ys);
    all = All-append (λ b. p b ≡ true) front s.run a s.longest.all;
    stops = s.longest.stops;
  };
}

-- every byte is of the kind p, as a fold over all of them tells
pub all_told : (p : ℕ → Bool) (a : Bool) (bs : List ℕ) → Decides (fold (λ t b. t && p b) a bs) ((a ≡ true) × AllOf p bs)
all_told p a [] = (λ e. (e, tt), λ h. h.0)
all_told p a (b ∷ bs) =
    let more = all_told p (a && p b) bs in (
      λ e.
          let h = more.0 e in
          let both = and_parts a (p b) h.0 in
          (both.0, (both.1, h.1)),
      λ h. more.1 (and_from a (p b) h.0 h.1.0, h.1.1),
    )

-- literals
pub literal_ends : (bytes xs ys : List ℕ) → xs ≡ bytes ++ ys → Ends (Literal bytes) xs ys
literal_ends bytes xs ys e = record { is = e; only = λ zs f. append_cancel_left bytes zs ys (sym f ∙ e) }

-- what `strip_prefix` says of one
pub literal_reads : (bytes xs : List ℕ) (r : Option (Bor (List ℕ))) → MatchOption r (pointwise eqb (take (length bytes) xs) bytes ≡ false) (λ ys. (pointwise eqb (take (length bytes) xs) bytes ≡ true) × (ys.now ≡ drop (length bytes) xs) × (length ys.now + length bytes ≡ length xs)) → Reads (Literal bytes) xs r
literal_reads bytes xs r cases = go r (strip_prefix_is Decides-eqb xs bytes r cases)
  where
    go : (r : Option (Bor (List ℕ))) → MatchOption r ((ys : List ℕ) → xs ≢ bytes ++ ys) (λ ys. xs ≡ bytes ++ ys.now) → Reads (Literal bytes) xs r
    go None none = none
    go (Some ys) e = literal_ends bytes xs ys.now e

-- what holds of each of the elements up to the end holds of all
pub all_taken : (P : Bor (List ℕ) → Type 0) (items : List (Bor (List ℕ))) (n : ℕ) → length items ≤ n → AllByRecursion P (take n items) → AllByRecursion P items
all_taken P items n h a = subst (AllByRecursion P) (take_all n items h) a
