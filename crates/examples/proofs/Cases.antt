-- Why the cases of the header hold.
use Rattle.std.proofs.Common.{◌≡◌, ℕ, ◌≤◌, ◌⊎◌, List, [], ◌∷◌, ◌++◌, get_or, take, codes, sym, refl, ap, inl, inr, arith, lit≤}
use Rattle.header.specs.Headers.NotStated.{lines}
use Rattle.header.specs.Lines.LinesRefused.{other_type, malformed}
use Rattle.header.proofs.Runs.{none_no_separator}
use Rattle.header.proofs.Order.{refused_stage}
use Rattle.xml.proofs.Steps.{heads}
use Rattle.examples.specs.Headers.{OtherVersion, NoBlanks, DigitLimit}

pub digit_limit : DigitLimit
digit_limit text all = (λ e. record { some = omega arith; short = omega arith; digits = all }, λ e n. omega (arith, n.short))

pub other_version : OtherVersion
other_version rest = refused_stage _ _ (lines (other_type (record { reason = refl; place = refl }) (λ b.
    let z : ◌≡◌ {A = ℕ} 48 49 = ap (λ (xs : List ℕ). get_or xs 7 0) b.1 in omega arith)))

-- a letter of a key
letter : {b : ℕ} → 65 ≤ b → b ≤ 90 → ((65 ≤ b) × (b ≤ 90)) ⊎ (((48 ≤ b) × (b ≤ 57)) ⊎ (b ≡ 95))
letter low high = inl (low, high)

pub no_blanks : NoBlanks
no_blanks rest = refused_stage _ _ (lines (malformed 11 (record { reason = refl; place = refl }) (record {
  before = [];
  begins = (_, refl);
  lines = refl;
  few = omega arith;
  no_end = λ b. let z : ◌≡◌ {A = ℕ} 80 12 = heads b.1 in omega arith;
  no_line = λ _. none_no_separator {front = codes "PVP_BLOCK_SIZE"} {back = codes ":=432" ++ 10 ∷ take 4065 rest} (record {
    whole = refl;
    all = (letter (lit≤ tt) (lit≤ tt), (letter (lit≤ tt) (lit≤ tt), (letter (lit≤ tt) (lit≤ tt), (inr (inr refl), (letter (lit≤ tt) (lit≤ tt), (letter (lit≤ tt) (lit≤ tt), (letter (lit≤ tt) (lit≤ tt), (letter (lit≤ tt) (lit≤ tt), (letter (lit≤ tt) (lit≤ tt), (inr (inr refl), (letter (lit≤ tt) (lit≤ tt), (letter (lit≤ tt) (lit≤ tt), (letter (lit≤ tt) (lit≤ tt), (letter (lit≤ tt) (lit≤ tt), tt))))))))))))));
    stops = λ x tail e h. let z : x ≡ 58 = sym (heads e) in omega (arith, h, z);
  }) (λ tail e. let y : ◌≡◌ {A = ℕ} 58 32 = heads e in omega arith);
})))
