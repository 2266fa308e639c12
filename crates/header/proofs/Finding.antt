-- The lines that entries stand for, and the line of one key.
use Rattle.std.proofs.Common.{◌≡◌, ℕ, ◌<◌, List, [], map, length, get_or, take, Bor, Some, None, Option, MatchOption, Decides, is_some, sym, refl, ap, ◌∙◌, subst, arith}
use Rattle.std.specs.List.{AllWithin, HoldsAt}
use Rattle.std.proofs.lemmas.List.{length-map, get_or-map, get_or-take, length-take-le}
use Rattle.header.specs.declared.entries.Entry.{Entry}
use Rattle.header.specs.Entries.{line_of}
use Rattle.header.specs.Lines.{Absent, LineOf, Repeats, line_at}

abbrev blank : Entry
blank = record { place = 0; key = record { ref_ptr = (0, 0); now = [] }; value = record { ref_ptr = (0, 0); now = [] } }

pub line_at_entry : (es : List Entry) (i : ℕ) → i < length es → line_at (map line_of es) i ≡ line_of (get_or es i blank)
line_at_entry es i lt = get_or-map line_of es i _ _ lt

-- what a search for a key says of the lines
pub found : (es : List Entry) (key : List ℕ) (r : Option (Bor Entry))
    → MatchOption r (AllWithin (λ (e : Entry). e.key.now ≡ key → ⊥) es 0 (length es)) (λ x. (x.now.key.now ≡ key) × (i : ℕ) × (i < length es) × HoldsAt (λ y. y ≡ x.now) es i × AllWithin (λ (e : Entry). e.key.now ≡ key → ⊥) es 0 i)
    → MatchOption r (Absent (map line_of es) key) (λ e. LineOf (map line_of es) key (line_of e.now))
found es key None h = λ i m.
    let lt : i < length es = omega (arith, m.within, length-map es line_of) in
    h i blank (omega arith) lt (ap (λ z. z.key) (sym (line_at_entry es i lt)) ∙ m.named)
found es key (Some x) h =
    let is = line_at_entry es h.1 h.2 ∙ ap line_of (h.3 blank) in
    record { i = h.1; line = record { within = omega (arith, h.2, length-map es line_of); named = ap (λ z. z.key) is ∙ h.0 }; is = is }

-- the lines before line j stand at their places
line_at_before : (es : List Entry) (j i : ℕ) → i < j → j < length es → line_at (map line_of (take j es)) i ≡ line_at (map line_of es) i
line_at_before es j i lt within =
    line_at_entry (take j es) i (omega (arith, length-take-le j es)) ∙ ap line_of (get_or-take j es i blank lt) ∙ sym (line_at_entry es i (omega arith))

-- whether the key of line j stood before, by a search in the lines before it
pub stood_before : (es before : List Entry) (j : ℕ) (key : List ℕ) (r : Option (Bor Entry)) → before ≡ take j es → j < length es → key ≡ (get_or es j blank).key.now
    → MatchOption r (Absent (map line_of before) key) (λ e. LineOf (map line_of before) key (line_of e.now))
    → Decides (is_some r) (Repeats (map line_of es) j)
stood_before es before j key r same within k h = go r (subst (λ l. MatchOption r (Absent (map line_of l) key) (λ e. LineOf (map line_of l) key (line_of e.now))) same h)
  where
    go : (r : Option (Bor Entry)) → MatchOption r (Absent (map line_of (take j es)) key) (λ e. LineOf (map line_of (take j es)) key (line_of e.now)) → Decides (is_some r) (Repeats (map line_of es) j)
    go None a = (
      λ e. absurd cc,
      λ r. absurd (a r.0 (record {
        within = omega (arith, r.1, length-map (take j es) line_of, length-take-le j es);
        named = ap (λ z. z.key) (line_at_before es j r.0 r.1 within) ∙ r.2 ∙ ap (λ z. z.key) (line_at_entry es j within) ∙ sym k;
      })),
    )
    go (Some x) l =
        let earlier : l.i < j = omega (arith, l.line.within, length-map (take j es) line_of, length-take-le j es) in (
          λ _. (l.i, earlier, ap (λ z. z.key) (sym (line_at_before es j l.i earlier within)) ∙ l.line.named ∙ k ∙ ap (λ z. z.key) (sym (line_at_entry es j within))),
          λ _. refl,
        )
