-- The numbers that keys name, in the order of the codes.
use Rattle.std.proofs.Common.{◌≡◌, ℕ, ◌+◌, ◌<◌, ◌≤◌, List, length, Option, Some, None, sym, refl, ap, ◌∙◌, subst, ⊎_elim, arith}
use Rattle.std.proofs.lemmas.Bool.{cases_order, cases_lt}
use Rattle.shelf.specs.declared.refusal.Refusal.{Refusal}
use Rattle.header.specs.Lines.{HeaderLine, Named, LineOf, Holds, Stands, Distinct, line_at}
use Rattle.header.specs.Keys.{code, name, last_number, Numeral, HasNumber, NotNumber, NumbersRefused, Block, BlockRefused, Support}
use Rattle.header.specs.Keys.BlockRefused.{no_size, no_place}
use Rattle.header.specs.declared.keys.Key.{Key}
use Rattle.header.specs.declared.keys.Key.TheVariants.{SupportSize, SupportPlace}
use Rattle.header.specs.declared.extent.Extent.{Extent}
use Rattle.header.proofs.Codes.{same_key, code_within}

-- no key with a code below n has a value that is no number
abbrev pub RightBelow : List HeaderLine → ℕ → Type 0
RightBelow ls n = (o : Key) → code o < n → NotNumber ls o → ⊥

-- where no key stands twice, a key has one line
pub one_line : (ls : List HeaderLine) (n : List ℕ) (i j : ℕ) → Distinct ls → Named ls n i → Named ls n j → i ≡ j
one_line ls n i j d a b =
    ⊎_elim (λ e. e)
    (⊎_elim (λ lt. absurd (d j b.within (i, lt, a.named ∙ sym b.named)))
    (λ gt. absurd (d i a.within (j, gt, b.named ∙ sym a.named))))
    (cases_order i j)

-- which says one thing
pub same_line : (ls : List HeaderLine) (n : List ℕ) (l m : HeaderLine) → Distinct ls → LineOf ls n l → LineOf ls n m → l ≡ m
same_line ls n l m d a b = sym a.is ∙ ap (line_at ls) (one_line ls n a.i b.i d a.line b.line) ∙ b.is

-- and so one value
pub one_value : (ls : List HeaderLine) (n v w : List ℕ) → Distinct ls → Holds ls n v → Holds ls n w → v ≡ w
one_value ls n v w d a b = sym a.holds ∙ ap (λ l. l.value) (same_line ls n a.l b.l d a.line b.line) ∙ b.holds

-- which stands in one place
pub one_extent : (ls : List HeaderLine) (n : List ℕ) (x y : Extent) → Distinct ls → Stands ls n x → Stands ls n y → x ≡ y
one_extent ls n x y d a b =
    let e = same_line ls n a.l b.l d a.line b.line in
    let p : x.place ≡ y.place = a.place ∙ ap (λ l. l.place + length l.key + 4) e ∙ sym b.place in
    let s : x.size ≡ y.size = a.size ∙ ap (λ l. length l.value) e ∙ sym b.size in
    λ i. record { place = p i; size = s i }

pub number_right : (ls : List HeaderLine) (k : Key) (n : ℕ) → Distinct ls → HasNumber ls k n → NotNumber ls k → ⊥
number_right ls k n d h u = u.wrong (subst Numeral (one_value ls (name k) h.text u.text d h.holds u.holds) h.numeral)

pub right_none : (ls : List HeaderLine) → RightBelow ls 1
right_none ls o lt u = omega (arith, code_within o)

right_next : (ls : List HeaderLine) (k : Key) → RightBelow ls (code k) → (NotNumber ls k → ⊥) → RightBelow ls (code k + 1)
right_next ls k below right o lt u =
    ⊎_elim (λ less. below o less u) (λ ge. right (subst (NotNumber ls) (same_key o k (omega arith)) u)) (cases_lt (code o) (code k))

module _ (ls : List HeaderLine) (d : Distinct ls) (s p : Key) (next : code p ≡ code s + 1) (below : RightBelow ls (code s)) where
  right_size : (n : ℕ) → HasNumber ls s n → RightBelow ls (code p)
  right_size n h = subst (RightBelow ls) (sym next) (right_next ls s below (number_right ls s n d h))

  -- behind a block the numbers so far are right
  pub block_more : (x : Extent) → Block ls s p x → RightBelow ls (code p + 1)
  block_more x b = right_next ls p (right_size x.size b.has_size) (number_right ls p x.place d b.has_place)

  -- the first key of a block that names no number is the first of all
  pub first_wrong : (e : Refusal) → code p ≤ last_number → BlockRefused ls s p e → NumbersRefused ls e
  first_wrong e among (no_size r) = record { k = s; says = r.0; among = omega arith; not_number = r.1; first = below }
  first_wrong e among (no_place n h r) = record { k = p; says = r.0; among = among; not_number = r.1; first = right_size n h }

pub support_more : (ls : List HeaderLine) (d : Distinct ls) (o : Option Extent) → RightBelow ls 3 → Support ls o → RightBelow ls 5
support_more ls d None below s =
    right_next ls SupportPlace (right_next ls SupportSize below (λ u. s.0 u.holds.line.i u.holds.line.line)) (λ u. s.1 u.holds.line.i u.holds.line.line)
support_more ls d (Some x) below s = block_more ls d SupportSize SupportPlace refl below x s
