-- The refusal that `head` answers is the first that applies, and a file has one answer.
use Rattle.std.proofs.Common.{◌≡◌, ℕ, ◌+◌, ◌<◌, ◌≤◌, cond, eqb, ◌⊎◌, List, length, Ok, Err, Result, sym, refl, ap, ◌∙◌, subst, inl, inr, rules, ⊎_elim, arith}
use Rattle.std.proofs.lemmas.Bool.{cases_order, cases_lt}
use Rattle.shelf.specs.declared.refusal.Reason.{Reason}
use Rattle.shelf.specs.declared.refusal.Reason.TheVariants.{NotCphd, LineMalformed, KeyRepeated, KeyMissing, KeyNotNumber, BlockMisplaced}
use Rattle.shelf.specs.declared.refusal.Refusal.{Refusal}
use Rattle.shelf.specs.Refusals.{Place, Says, number}
use Rattle.shelf.specs.Refusals.Place.{block}
use Rattle.header.specs.declared.header.Header.{Header}
use Rattle.header.specs.declared.keys.Key.{Key}
use Rattle.header.specs.Lines.{Begins, HeaderLine, HeaderText, Malformed, Distinct, RepeatedAt, file_type, lines_start}
use Rattle.header.specs.Keys.{code, last_number, Missing, NotNumber, Complete}
use Rattle.header.specs.Lines.LinesRefused.{other_type, malformed}
use Rattle.header.specs.Headers.{Stated, NotStated, InOrder, Misplaced, FirstMisplaced, block_order}
use Rattle.header.specs.Headers.NotStated.{lines, repeated, missing, not_number}
use Rattle.header.specs.Headers.Misplaced.{xml_early, support_early, pvp_early, signal_early, not_whole}
use Rattle.header.specs.Rows.{front, Terminated, LawfulHeader, Row, place_order, Refused, Answer}
use Rattle.header.specs.Rows.Row.{other_type as row_type, malformed as row_malformed, repeated as row_repeated, missing as row_missing, not_number as row_not_number, misplaced as row_misplaced, unterminated as row_unterminated}
use Rattle.shelf.proofs.Reasons.{said, one_reason}
use Rattle.header.proofs.Unique.{text_same, malformed_text, malformed_same, places_rise}
use Rattle.header.proofs.Agreement.{stated_complete, stated_right, stated_same, not_misplaced}

-- what a row of this reason says of its place
abbrev Fault : List ℕ → Reason → ℕ → Type 0
Fault file NotCphd p = (p ≡ 0) × (Begins (front file) file_type → ⊥)
Fault file LineMalformed p = Malformed (front file) p
Fault file KeyRepeated p = (ls : List HeaderLine) × (at : ℕ) × HeaderText (front file) ls at × RepeatedAt ls p
Fault file KeyMissing p = (ls : List HeaderLine) × (at : ℕ) × HeaderText (front file) ls at × ((k : Key) × (p ≡ code k) × Missing ls k)
Fault file KeyNotNumber p = (ls : List HeaderLine) × (at : ℕ) × HeaderText (front file) ls at × ((k : Key) × (p ≡ code k) × (code k ≤ last_number) × NotNumber ls k)
Fault file BlockMisplaced p = (h : Header) × Stated (front file) h × (Misplaced h (length file) p ⊎ ((p ≡ 1) × (Terminated file h → ⊥)))
Fault file _ p = ⊥

-- the same of a refusal that says this reason and this place
by_says : (file : List ℕ) {e : Refusal} {kind : Place} {p : ℕ} (r : Reason) → Says e (number r) kind p → Fault file r p → Fault file e.reason e.place
by_says file {e} {kind} {p} r s x =
    let reason = one_reason e.reason r (said s) in
    subst (λ q. Fault file q e.place) (sym reason) (subst (Fault file r) (sym s.place) x)

-- the only case split over rows
view : (file : List ℕ) (e : Refusal) → Row file e → Fault file e.reason e.place
view file e (row_type s h) = by_says file NotCphd s (refl, h)
view file e (row_malformed p s m) = by_says file LineMalformed s m
view file e (row_repeated p s ls at l a) = by_says file KeyRepeated s (ls, at, l, a)
view file e (row_missing k s ls at l m) = by_says file KeyMissing s (ls, at, l, (k, refl, m))
view file e (row_not_number k s ls at l le u) = by_says file KeyNotNumber s (ls, at, l, (k, refl, le, u))
view file e (row_misplaced p s h t m) = by_says file BlockMisplaced s (h, t, inl m)
view file e (row_unterminated s h t u) = by_says file BlockMisplaced s (h, t, inr (refl, u))

bounds : (file : List ℕ) (r : Reason) (p : ℕ) → Fault file r p → (10 ≤ number r) × (number r ≤ 15)
bounds file r p x = search rules

-- no row of a number below n applies
abbrev Clear : List ℕ → ℕ → Type 0
Clear file n = (r : Reason) (p : ℕ) → number r < n → Fault file r p → ⊥

clear_more : (file : List ℕ) (r : Reason) → Clear file (number r) → ((p : ℕ) → Fault file r p → ⊥) → Clear file (number r + 1)
clear_more file r low none q p lt x =
    ⊎_elim
    (λ less. low q p less x)
    (λ ge. none p (subst (λ z. Fault file z p) (one_reason q r (omega arith)) x))
    (cases_lt (number q) (number r))

clear10 : (file : List ℕ) → Clear file 10
clear10 file r p lt x = omega (arith, bounds file r p x)

clear11 : (file : List ℕ) → Begins (front file) file_type → Clear file 11
clear11 file b = clear_more file NotCphd (clear10 file) (λ p x. x.1 b)

module _ (file : List ℕ) (ls : List HeaderLine) (at : ℕ) (l : HeaderText (front file) ls at) where
  -- the lines of a row are these
  ours : (P : List HeaderLine → Type 0) (ms : List HeaderLine) (at' : ℕ) → HeaderText (front file) ms at' → P ms → P ls
  ours P ms at' m = subst P (sym (text_same (front file) ls ms at at' l m).0)

  clear12 : Clear file 12
  clear12 = clear_more file LineMalformed (clear11 file l.begins) (λ p m. malformed_text (front file) ls at p l m)

  clear13 : Distinct ls → Clear file 13
  clear13 d = clear_more file KeyRepeated clear12 (λ p x. let a = ours (λ z. RepeatedAt z p) x.0 x.1 x.2 x.3 in d a.0 a.1 a.3)

  clear14 : Distinct ls → Complete ls → Clear file 14
  clear14 d c = clear_more file KeyMissing (clear13 d) (λ p x. c x.3.0 (ours (λ z. Missing z x.3.0) x.0 x.1 x.2 x.3.2))

module _ (file : List ℕ) (h : Header) (s : Stated (front file) h) where
  clear15 : Clear file 15
  clear15 =
      clear_more file KeyNotNumber (clear14 file s.ls s.at s.text s.distinct (stated_complete (front file) h s))
      (λ p x. stated_right (front file) h s x.3.0 x.3.2 (ours file s.ls s.at s.text (λ z. NotNumber z x.3.0) x.0 x.1 x.2 x.3.3))

  -- the header of a row of number 15 is this one
  block_fault : (p : ℕ) → Fault file BlockMisplaced p → Misplaced h (length file) p ⊎ ((p ≡ 1) × (Terminated file h → ⊥))
  block_fault p x = subst (λ z. Misplaced z (length file) p ⊎ ((p ≡ 1) × (Terminated file z → ⊥))) (stated_same (front file) x.0 h x.1 s) x.2

clear16 : (file : List ℕ) (h : Header) → LawfulHeader file h → Clear file 16
clear16 file h w =
    clear_more file BlockMisplaced (clear15 file h w.stated)
    (λ p x. ⊎_elim (not_misplaced h (length file) p w.ordered) (λ u. u.1 w.terminated) (block_fault file h w.stated p x))

lawful_no_row : (file : List ℕ) (h : Header) (e : Refusal) → LawfulHeader file h → Row file e → ⊥
lawful_no_row file h e w r = let x = view file e r in clear16 file h w e.reason e.place (omega (arith, bounds file e.reason e.place x)) x

-- a row that applies is the first where no lower number and no earlier place of its number does
refused_by : (file : List ℕ) (e : Refusal) (r : Reason) {kind : Place} {p : ℕ} → Says e (number r) kind p → Row file e → Clear file (number r) → ((q : ℕ) → place_order (number r) q < place_order (number r) p → Fault file r q → ⊥) → Refused file e
refused_by file e r {kind} {p} s row clear first = record {
  applies = row;
  first = λ f b x.
      let is = said s in
      ⊎_elim
      (λ lt. clear f.reason f.place (omega (arith, lt, is)) (view file f x))
      (λ same. first f.place (rw (is, s.place) at same.1) (subst (λ z. Fault file z f.place) (one_reason f.reason r (same.0 ∙ is)) (view file f x)))
      b;
}

-- what a stage refuses
pub refused_stage : (file : List ℕ) (e : Refusal) → NotStated (front file) e → Refused file e
refused_stage file e (lines (other_type s h)) = refused_by file e NotCphd s (row_type s h) (clear10 file) (λ q lt x. omega (arith, lt))
refused_stage file e (lines (malformed p s m)) =
    refused_by file e LineMalformed s (row_malformed p s m) (clear11 file m.begins) (λ q lt x. omega (arith, lt, malformed_same (front file) q p x m))
refused_stage file e (repeated ls at l r) =
    refused_by file e KeyRepeated r.says (row_repeated _ r.says ls at l (r.j, r.within, refl, r.repeats)) (clear12 file ls at l)
    (λ q lt x.
    let b = ours file ls at l (λ z. RepeatedAt z q) x.0 x.1 x.2 x.3 in
    ⊎_elim
    (λ less. r.first b.0 less b.3)
    (λ ge. omega (arith, places_rise (front file) lines_start at ls r.j b.0 l.lines ge b.1, b.2, lt))
    (cases_lt b.0 r.j))
refused_stage file e (missing ls at l d m) =
    refused_by file e KeyMissing m.says (row_missing m.k m.says ls at l m.missing) (clear13 file ls at l d)
    (λ q lt x. m.first x.3.0 (omega (arith, lt, x.3.1)) (ours file ls at l (λ z. Missing z x.3.0) x.0 x.1 x.2 x.3.2))
refused_stage file e (not_number ls at l d c m) =
    refused_by file e KeyNotNumber m.says (row_not_number m.k m.says ls at l m.among m.not_number) (clear14 file ls at l d c)
    (λ q lt x. m.first x.3.0 (omega (arith, lt, x.3.1)) (ours file ls at l (λ z. NotNumber z x.3.0) x.0 x.1 x.2 x.3.3))

-- the codes of misplaced blocks from their order
abbrev block_back : ℕ → ℕ
block_back t = cond (eqb t 9) 7 (cond (eqb t 10) 1 t)

misplaced_order : (h : Header) (len p : ℕ) → Misplaced h len p → (block_order p < 10) × (block_back (block_order p) ≡ p)
misplaced_order h len p (xml_early e x) = rw e (omega arith, refl)
misplaced_order h len p (support_early e x) = rw e (omega arith, refl)
misplaced_order h len p (pvp_early e x) = rw e (omega arith, refl)
misplaced_order h len p (signal_early e x) = rw e (omega arith, refl)
misplaced_order h len p (not_whole e x) = rw e (omega arith, refl)

-- a misplaced block
pub refused_misplaced : (file : List ℕ) (e : Refusal) (h : Header) (p : ℕ) → Stated (front file) h → Says e 15 block p → FirstMisplaced h (length file) p → Refused file e
refused_misplaced file e h p t s m =
    refused_by file e BlockMisplaced s (row_misplaced p s h t m.misplaced) (clear15 file h t)
    (λ q lt x.
    ⊎_elim
    (m.first q lt)
    (λ u. omega (arith, lt, ap block_order u.0, (misplaced_order h (length file) p m.misplaced).0))
    (block_fault file h t q x))

-- an XML block without its terminator
pub refused_unterminated : (file : List ℕ) (e : Refusal) (h : Header) → Stated (front file) h → InOrder h (length file) → Says e 15 block 1 → (Terminated file h → ⊥) → Refused file e
refused_unterminated file e h t o s u =
    refused_by file e BlockMisplaced s (row_unterminated s h t u) (clear15 file h t)
    (λ q lt x. ⊎_elim (not_misplaced h (length file) q o) (λ v. omega (arith, lt, ap block_order v.0)) (block_fault file h t q x))

-- a place from its order
abbrev place_back : ℕ → ℕ → ℕ
place_back n t = cond (eqb n 15) (block_back t) t

place_back_lem : (file : List ℕ) (r : Reason) (p : ℕ) → Fault file r p → place_back (number r) (place_order (number r) p) ≡ p
place_back_lem file BlockMisplaced p x = ⊎_elim (λ m. (misplaced_order x.0 (length file) p m).1) (λ u. ap (λ z. block_back (block_order z)) u.0 ∙ sym u.0) x.2
place_back_lem file _ p x = refl

same_place : (file : List ℕ) (e f : Refusal) → Row file e → Row file f → e.reason ≡ f.reason → place_order (number f.reason) e.place ≡ place_order (number f.reason) f.place → e.place ≡ f.place
same_place file e f r q same k =
    sym (place_back_lem file f.reason e.place (subst (λ z. Fault file z e.place) same (view file e r))) ∙ ap (place_back (number f.reason)) k ∙ place_back_lem file f.reason f.place (view file f q)

same_refusal : (file : List ℕ) (e f : Refusal) → Refused file e → Refused file f → e ≡ f
same_refusal file e f r q =
    ⊎_elim
    (λ n.
    ⊎_elim
    (λ k.
    let reason = one_reason e.reason f.reason n in
    let place = same_place file e f r.applies q.applies reason k in
    λ i. record { reason = reason i; place = place i })
    (⊎_elim
    (λ lt. absurd (q.first e (inr (n, lt)) r.applies))
    (λ gt. absurd (r.first f (inr (sym n, subst (λ z. place_order z f.place < place_order z e.place) (sym n) gt)) q.applies)))
    (cases_order (place_order (number f.reason) e.place) (place_order (number f.reason) f.place)))
    (⊎_elim (λ lt. absurd (q.first e (inl lt) r.applies)) (λ gt. absurd (r.first f (inl gt) q.applies)))
    (cases_order (number e.reason) (number f.reason))

pub one_answer : (file : List ℕ) (r s : Result Header Refusal) → Answer file r → Answer file s → s ≡ r
one_answer file (Ok g) (Ok h) a b = ap Ok (stated_same (front file) h g b.stated a.stated)
one_answer file (Ok g) (Err f) a b = absurd (lawful_no_row file g f a b.applies)
one_answer file (Err e) (Ok h) a b = absurd (lawful_no_row file h e b a.applies)
one_answer file (Err e) (Err f) a b = ap Err (same_refusal file f e b a)
