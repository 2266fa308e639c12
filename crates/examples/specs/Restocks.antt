-- A shorter restock after a longer one, on any shelf of capacity 4 + 4.
use Rattle.std.specs.Prelude.{◌≡◌, ℕ, ◌+◌, min, List, length, Result}
use Rattle.shelf.specs.declared.refusal.Refusal.{Refusal}
use Rattle.shelf.specs.Meaning.{limit, State, Restocks}

-- restocked with 8 bytes and then with 3, it has 3
abbrev pub ShorterRestock : Type 0
ShorterRestock = (s t u : State) (eight three : List ℕ) (q r : Result Unit Refusal) → s.capacity ≡ min (4 + 4) limit → s.stamp ≡ 0
    → length eight ≡ 8 → length three ≡ 3 → Restocks s eight 1 t q → Restocks t three 2 u r → length u.bytes ≡ 3
