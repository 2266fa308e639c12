-- The lines that were read, and the bytes behind them.
use Rattle.std.proofs.Common.{◌≡◌, ℕ, ◌+◌, ◌-◌, ◌<◌, ◌≤◌, List, [], ◌∷◌, ◌++◌, length, take, drop, Bool, Decides, ◌==◌, sym, refl, ap, ◌∙◌, subst, arith, length-append}
use Rattle.std.specs.List.{starts_with}
use Rattle.std.proofs.lemmas.Bool.Decides.{Decides-eqb}
use Rattle.std.proofs.lemmas.List.{drop_at, drop-drop, take_rest}
use Rattle.std.proofs.lemmas.Slice.Eq.{starts_is}
use Rattle.header.specs.Lines.{Begins, written, LineIs, NoLine, OnlyLine, HeaderLine, line_size, Follow, HeaderText, Malformed, file_type, lines_start, most_lines, terminator}

pub follow_more : (bs : List ℕ) (p q : ℕ) (ls : List HeaderLine) (k v : List ℕ) → Follow bs p ls q → LineIs (drop q bs) k v → Follow bs p (ls ++ record { place = q; key = k; value = v } ∷ []) (q + length (written k v))
follow_more bs p q [] k v f l = (sym f, subst (λ n. LineIs (drop n bs) k v) (sym f) l, ap (λ n. n + length (written k v)) f)
follow_more bs p q (x ∷ ls) k v f l = (f.0, f.1, follow_more bs (p + line_size x) q ls k v f.2 l)

-- the lines ls of head are read up to the place `end`, and rest follows
pub record Read (head : List ℕ) (ls : List HeaderLine) (end : ℕ) (rest : List ℕ) : Type 0 where
  pub begins : Begins head file_type
  pub lines : Follow head lines_start ls end
  pub few : length ls ≤ most_lines
  pub short : end + length rest ≡ length head
  pub behind : drop end head ≡ rest

module _ {head : List ℕ} {ls : List HeaderLine} {end : ℕ} {rest : List ℕ} (r : Read head ls end rest) where
  pub read_more : (k v behind : List ℕ) → OnlyLine rest k v behind → length ls < most_lines → Read head (ls ++ record { place = end; key = k; value = v } ∷ []) (length head - length behind) behind
  read_more k v behind l few =
      let size : ℕ = length (written k v) in
      let long : length rest ≡ size + length behind = ap length l.whole ∙ length-append (written k v) behind in
      let next : end + size ≡ length head - length behind = omega (arith, long, r.short) in
      record {
        begins = r.begins;
        lines = subst (Follow head lines_start _) next (follow_more head lines_start end ls k v r.lines (subst (λ z. LineIs z k v) (sym r.behind) l.is));
        few = omega (arith, few, length-append ls (record { place = end; key = k; value = v } ∷ []));
        short = omega (arith, long, r.short);
        behind = ap (λ n. drop n head) (sym next) ∙ sym (drop-drop size end head) ∙ ap (drop size) (r.behind ∙ l.whole) ∙ drop_at (written k v) behind size refl;
      }

  pub read_all : Begins (drop end head) terminator → HeaderText head ls end
  read_all e = record { begins = r.begins; lines = r.lines; few = r.few; ends = e }

  -- the terminator does not follow, nor a line, unless it is one too many
  pub read_wrong : (length ls < most_lines → NoLine rest) → (Begins (drop end head) terminator → ⊥) → Malformed head end
  read_wrong no_line no_end = record { before = ls; begins = r.begins; lines = r.lines; few = r.few; no_end = no_end; no_line = λ h. subst NoLine (sym r.behind) (no_line h) }

-- what `starts_with` says of `&bs[p..]`
pub ends_at : (bs : List ℕ) (p : ℕ) (r : Bool) → r ≡ starts_with ◌==◌ (take (length bs - p) (drop p bs)) terminator → Decides r (Begins (drop p bs) terminator)
ends_at bs p r e =
    let h = starts_is Decides-eqb (take (length bs - p) (drop p bs)) terminator r e in
    (λ t. (_, sym (take_rest bs p) ∙ h.0 t), λ b. h.1 b.0 (take_rest bs p ∙ b.1))
