-- What a source answers and what a restock leaves, over the meaning alone: a list of bytes, a stamp, a capacity.
use Rattle.std.specs.Prelude.{◌≡◌, ℕ, ◌+◌, ◌^◌, ◌<◌, ◌≤◌, List, length, take, drop, Result, MatchResult}
use Rattle.shelf.specs.declared.refusal.Refusal.{Refusal}
use Rattle.shelf.specs.Refusals.{Says}
use Rattle.shelf.specs.Refusals.Place.{shelf_stamp, shelf_capacity, byte_length}

-- the most bytes that a source holds, and the largest capacity of a shelf
abbrev pub limit : ℕ
limit = 2 ^ 40

-- an accepted read: the bytes from `place` on fill the whole buffer
pub record Filled (bytes : List ℕ) (place : ℕ) (before after : List ℕ) : Type 0 where
  pub inside : place + length before ≤ length bytes
  pub filled : after ≡ take (length before) (drop place bytes)

-- a refused read: it reaches past the end, and the buffer stays
pub record PastEnd (bytes : List ℕ) (place : ℕ) (before after : List ℕ) (e : Refusal) : Type 0 where
  pub outside : length bytes < place + length before
  pub same : after ≡ before
  pub says : Says e 3 byte_length (length bytes)

-- what a read from `place` answers, into a buffer that held `before` and then holds `after`
abbrev pub Reads : List ℕ → ℕ → List ℕ → List ℕ → Result Unit Refusal → Type 0
Reads bytes place before after r = MatchResult r (λ _. Filled bytes place before after) (PastEnd bytes place before after)

-- what a restock of `size` bytes under `new` asks of a shelf of this capacity and stamp
pub record Fit (capacity stamp size new : ℕ) : Type 0 where
  pub above : stamp < new
  pub fits : size ≤ capacity

-- why a restock is refused: a stamp that is not above the shelf's comes before a length over its capacity
pub data Unfit (capacity stamp size new : ℕ) (e : Refusal) : Type 0 where
  not_above : new ≤ stamp → Says e 1 shelf_stamp stamp → Unfit capacity stamp size new e
  too_long : stamp < new → capacity < size → Says e 2 shelf_capacity capacity → Unfit capacity stamp size new e

-- what a shelf means: its bytes, its stamp and its capacity
pub record State : Type 0 where
  pub bytes : List ℕ
  pub stamp : ℕ
  pub capacity : ℕ

-- the state of a shelf, by what its kind means
abbrev pub state : {S : Type 0} → (S → List ℕ) → (S → ℕ) → (S → ℕ) → S → State
state bytes stamp capacity s = record { bytes = bytes s; stamp = stamp s; capacity = capacity s }

-- after an accepted restock: the bytes and the stamp are those given, the capacity stays
pub record Restocked (s : State) (given : List ℕ) (new : ℕ) (t : State) : Type 0 where
  pub bytes : t.bytes ≡ given
  pub stamp : t.stamp ≡ new
  pub capacity : t.capacity ≡ s.capacity

-- after a refused one: nothing has changed
pub record Unchanged (s t : State) : Type 0 where
  pub bytes : t.bytes ≡ s.bytes
  pub stamp : t.stamp ≡ s.stamp
  pub capacity : t.capacity ≡ s.capacity

-- what a restock with `given` under `new` answers, and how it takes a shelf from the state s to t
abbrev pub Restocks : State → List ℕ → ℕ → State → Result Unit Refusal → Type 0
Restocks s given new t r =
    MatchResult r
    (λ _. Fit s.capacity s.stamp (length given) new × Restocked s given new t)
    (λ e. Unfit s.capacity s.stamp (length given) new e × Unchanged s t)
