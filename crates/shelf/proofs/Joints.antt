-- Lists that are joined, and read across the joint.
use Rattle.std.proofs.Common.{◌≡◌, ℕ, ◌+◌, ◌-◌, ◌≤◌, min, max, List, [], ◌++◌, length, take, drop, Ok, Err, Result, sym, refl, ap, ◌∙◌, subst, inl, inr, append-nil, arith, take-add}
use Rattle.std.proofs.lemmas.List.{take_all, take_at, drop_at, drop-drop, take-take, length-take, length-append, length-drop, take-append-le, drop-append-le, drop_all, take-append-drop}
use Rattle.std.proofs.lemmas.Slice.{between_is}
use Rattle.std.proofs.lemmas.Bool.{cases_lt}
use Rattle.shelf.specs.declared.refusal.Refusal.{Refusal}
use Rattle.shelf.specs.declared.joined.JoinedShelf.{JoinedShelf}
use Rattle.shelf.specs.Kinds.{PartRestocked, PartsLeft}
use Rattle.std.proofs.lemmas.List.{take_min, drop_min}
use Rattle.shelf.specs.Meaning.{Filled, Reads, State, Fit, Restocks, limit}

pub joined_length : (xs ys : List ℕ) (top : ℕ) → length (take top (xs ++ ys)) ≡ min (length xs + length ys) top
joined_length xs ys top = length-take top (xs ++ ys) ∙ omega (arith, length-append xs ys)

-- a part of what is cut off at top
pub cut_off : (xs : List ℕ) (top p n : ℕ) → p + n ≤ top → take n (drop p (take top xs)) ≡ take n (drop p xs)
cut_off xs top p n h =
    ap (take n) (sym (between_is xs p top)) ∙ take-take n (top - p) (drop p xs) (omega arith)

-- the first n of a joined list
pub take_joined : (xs ys : List ℕ) (n : ℕ) → take n (xs ++ ys) ≡ take n xs ++ take (n - length xs) ys
take_joined xs ys n =
    elim (cases_lt n (length xs)) [
      | inl lt ↦
          (let z : n - length xs ≡ 0 = omega arith in
          take-append-le n xs ys (omega arith) ∙ sym (append-nil (take n xs)) ∙ ap (λ (m : ℕ). take n xs ++ take m ys) (sym z))
      | inr ge ↦
          (let s : n ≡ length xs + (n - length xs) = omega arith in
          ap (λ (m : ℕ). take m (xs ++ ys)) s ∙ take-add (length xs) (n - length xs) (xs ++ ys)
          ∙ ap (λ (l : List ℕ). l ++ take (n - length xs) (drop (length xs) (xs ++ ys))) (take_at xs ys (length xs) refl ∙ sym (take_all n xs ge))
          ∙ ap (λ (l : List ℕ). take n xs ++ take (n - length xs) l) (drop_at xs ys (length xs) refl))
    ]

pub drop_joined : (xs ys : List ℕ) (p : ℕ) → drop p (xs ++ ys) ≡ drop p xs ++ drop (p - length xs) ys
drop_joined xs ys p =
    elim (cases_lt p (length xs)) [
      | inl lt ↦
          (let z : p - length xs ≡ 0 = omega arith in
          drop-append-le p xs ys (omega arith) ∙ ap (λ (m : ℕ). drop p xs ++ drop m ys) (sym z))
      | inr ge ↦
          (let s : p ≡ length xs + (p - length xs) = omega arith in
          ap (λ (m : ℕ). drop m (xs ++ ys)) s ∙ sym (drop-drop (p - length xs) (length xs) (xs ++ ys))
          ∙ ap (drop (p - length xs)) (drop_at xs ys (length xs) refl)
          ∙ ap (λ (l : List ℕ). l ++ drop (p - length xs) ys) (sym (drop_all p xs ge)))
    ]

-- a read across the joint
pub cross : (xs ys : List ℕ) (top p n k from next : ℕ) → p + n ≤ top
    → from ≡ min p (length xs) → k ≡ min n (length xs - from) → next ≡ max p (length xs) - length xs
    → take k (drop from xs) ++ take (n - k) (drop next ys) ≡ take n (drop p (take top (xs ++ ys)))
cross xs ys top p n k from next h ef ek en =
    let l : length (drop p xs) ≡ length xs - p = length-drop p xs in
    let e3 : n - length (drop p xs) ≡ n - k = omega (arith, l, ef, ek) in
    let right : take n (drop p (take top (xs ++ ys))) ≡ take n (drop p xs) ++ take (n - k) (drop (p - length xs) ys) =
    cut_off (xs ++ ys) top p n h ∙ ap (take n) (drop_joined xs ys p) ∙ take_joined (drop p xs) (drop (p - length xs) ys) n
    ∙ ap (λ (m : ℕ). take n (drop p xs) ++ take m (drop (p - length xs) ys)) e3 in
    let q : next ≡ p - length xs = omega arith in
    let second : take n (drop p xs) ++ take (n - k) (drop next ys) ≡ take n (drop p xs) ++ take (n - k) (drop (p - length xs) ys) = ap (λ (m : ℕ). take n (drop p xs) ++ take (n - k) (drop m ys)) q in
    elim (cases_lt p (length xs)) [
      | inl lt ↦
          (let f : from ≡ p = omega arith in
          let a : take k (drop from xs) ≡ take n (drop p xs) = ap (λ (m : ℕ). take k (drop m xs)) f
          ∙ elim (cases_lt n (length xs - p)) [
            | inl small ↦ (let q : k ≡ n = omega arith in ap (λ (m : ℕ). take m (drop p xs)) q)
            | inr big ↦ take_all k (drop p xs) (omega (arith, l)) ∙ sym (take_all n (drop p xs) (omega (arith, l)))
          ] in
          ap (λ (z : List ℕ). z ++ take (n - k) (drop next ys)) a ∙ second ∙ sym right)
      | inr ge ↦
          (let z : k ≡ 0 = omega arith in
          let a : take k (drop from xs) ≡ take n (drop p xs) = ap (λ (m : ℕ). take m (drop from xs)) z ∙ sym (ap (take n) (drop_all p xs ge) ∙ take_all n [] (omega arith)) in
          ap (λ (z : List ℕ). z ++ take (n - k) (drop next ys)) a ∙ second ∙ sym right)
    ]

-- a read of the first into the front of a buffer, and of the second into the rest, is one of the two joined
pub joined_reads : (xs ys before near far front back : List ℕ) (top p k from next : ℕ) (r : Result Unit Refusal)
    → p + length before ≤ length (take top (xs ++ ys))
    → from ≡ min p (length xs) → k ≡ min (length before) (length xs - from) → next ≡ max p (length xs) - length xs
    → length near ≡ k → length far + k ≡ length before
    → Filled xs from near front → Reads ys next far back r
    → Reads (take top (xs ++ ys)) p before (front ++ back) r
joined_reads xs ys before near far front back top p k from next (Ok u) h ef ek en lnear lfar first second =
    let l : length far ≡ length before - k = omega arith in
    record {
      inside = h;
      filled = ap (λ (z : List ℕ). z ++ back) (first.filled ∙ ap (λ (j : ℕ). take j (drop from xs)) lnear)
          ∙ ap (λ (z : List ℕ). take k (drop from xs) ++ z) (second.filled ∙ ap (λ (j : ℕ). take j (drop next ys)) l)
          ∙ cross xs ys top p (length before) k from next (omega (arith, h, joined_length xs ys top)) ef ek en;
    }
joined_reads xs ys before near far front back top p k from next (Err e) h ef ek en lnear lfar first second =
    absurd (omega (arith, second.outside, joined_length xs ys top, h, ef, ek, en, lfar))

-- two shelves as one
abbrev pub joined : State → State → State
joined s t = record { bytes = take limit (s.bytes ++ t.bytes); stamp = max s.stamp t.stamp; capacity = min (s.capacity + t.capacity) limit }

-- both parts were restocked, the first with the front and the second with the rest
module _ {A B : Type 0} (meanA : A → State) (leavesA : A → List ℕ → ℕ → Result Unit Refusal → A → Type 0) (meanB : B → State) (leavesB : B → List ℕ → ℕ → Result Unit Refusal → B → Type 0)
    (s t : JoinedShelf A B) (given front back : List ℕ) (new k : ℕ) (r : Result Unit Refusal)
    (cut : k ≡ min (length given) (meanA s.first).capacity) (f : front ≡ take k given) (b : back ≡ drop k given) (ok : r ≡ Ok tt)
    (first : PartRestocked meanA leavesA s.first front new t.first) (second : PartRestocked meanB leavesB s.second back new t.second) where
  cut_is : k ≡ min (meanA s.first).capacity (length given)
  cut_is = omega arith

  front_is : front ≡ take (meanA s.first).capacity given
  front_is = f ∙ ap (λ (j : ℕ). take j given) cut_is ∙ take_min (meanA s.first).capacity given

  back_is : back ≡ drop (meanA s.first).capacity given
  back_is = b ∙ ap (λ (j : ℕ). drop j given) cut_is ∙ drop_min (meanA s.first).capacity given

  pub parts_left : PartsLeft meanA leavesA meanB leavesB s given new r t
  parts_left = subst (λ (q : Result Unit Refusal). PartsLeft meanA leavesA meanB leavesB s given new q t) (sym ok) (
    subst (λ (xs : List ℕ). PartRestocked meanA leavesA s.first xs new t.first) front_is first,
    subst (λ (xs : List ℕ). PartRestocked meanB leavesB s.second xs new t.second) back_is second,
  )

  pub joined_restocks : Fit (min ((meanA s.first).capacity + (meanB s.second).capacity) limit) (max (meanA s.first).stamp (meanB s.second).stamp) (length given) new
      → Restocks (joined (meanA s.first) (meanB s.second)) given new (joined (meanA t.first) (meanB t.second)) r
  joined_restocks fit =
      let x = first.restocked in
      let y = second.restocked in
      subst (Restocks (joined (meanA s.first) (meanB s.second)) given new (joined (meanA t.first) (meanB t.second))) (sym ok) (
        fit,
        record {
          bytes = ap (λ (z : List ℕ). take limit (z ++ (meanB t.second).bytes)) (x.bytes ∙ f) ∙ ap (λ (z : List ℕ). take limit (take k given ++ z)) (y.bytes ∙ b)
              ∙ ap (take limit) (take-append-drop k given) ∙ take_all limit given (omega (arith, fit.fits));
          stamp = omega (arith, x.stamp, y.stamp);
          capacity = omega (arith, x.capacity, y.capacity);
        },
      )
