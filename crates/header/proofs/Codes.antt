-- The keys by their codes.
use Rattle.std.proofs.Common.{◌≡◌, ℕ, ◌+◌, ◌-◌, ◌<◌, rules, ◌≤◌, List, [], ◌∷◌, get_or, Bor, Some, None, Option, MatchOption, sym, ap, ◌∙◌, subst, arith}
use Rattle.std.specs.List.{AllWithin, HoldsAt}
use Rattle.std.proofs.lemmas.List.{get_or-map}
use Rattle.std.proofs.lemmas.List.FromFn.{get_or-range_with_len}
use Rattle.header.specs.Lines.{HeaderLine}
use Rattle.header.specs.Keys.{code, Missing, Complete}
use Rattle.header.specs.declared.keys.Key.{Key}
use Rattle.header.specs.declared.keys.Key.TheVariants.{XmlSize, XmlPlace, SupportSize, SupportPlace, PvpSize, PvpPlace, SignalSize, SignalPlace, Classification, ReleaseInfo}

abbrev pub keys : List Key
keys = XmlSize ∷ XmlPlace ∷ SupportSize ∷ SupportPlace ∷ PvpSize ∷ PvpPlace ∷ SignalSize ∷ SignalPlace ∷ Classification ∷ ReleaseInfo ∷ []

pub code_within : (k : Key) → (0 < code k) × (code k ≤ 10)
code_within k = search rules

-- two keys have two codes
pub same_key : (k o : Key) → code k ≡ code o → k ≡ o
same_key k o e = search rules

-- the key of code i + 1 stands at i
pub key_at : (k : Key) → get_or keys (code k - 1) XmlSize ≡ k
key_at k = search rules

code_at : (i : ℕ) → i < 10 → code (get_or keys i XmlSize) ≡ i + 1
code_at i lt = sym (get_or-map code keys i XmlSize 0 lt) ∙ get_or-range_with_len 1 10 i 0 lt ∙ omega arith

-- what a search through the keys says of the lowest code
pub first_missing : (ls : List HeaderLine) (r : Option (Bor Key))
    → MatchOption r (AllWithin (λ k. Missing ls k → ⊥) keys 0 10) (λ x. Missing ls x.now × (i : ℕ) × (i < 10) × HoldsAt (λ y. y ≡ x.now) keys i × AllWithin (λ k. Missing ls k → ⊥) keys 0 i)
    → MatchOption r (Complete ls) (λ x. Missing ls x.now × ((o : Key) → code o < code x.now → Missing ls o → ⊥))
first_missing ls None h = λ k m.
    h (code k - 1) XmlSize (omega arith) (omega (arith, code_within k)) (subst (Missing ls) (sym (key_at k)) m)
first_missing ls (Some x) h = (
  h.0,
  λ o lt m.
      let here : code x.now ≡ h.1 + 1 = ap code (sym (h.3 XmlSize)) ∙ code_at h.1 h.2 in
      h.4 (code o - 1) XmlSize (omega arith) (omega (arith, lt, here, code_within o)) (subst (Missing ls) (sym (key_at o)) m),
)
