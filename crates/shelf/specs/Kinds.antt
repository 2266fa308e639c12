-- What each kind of source or shelf means.
use Rattle.std.specs.Prelude.{◌≡◌, ℕ, ◌+◌, min, max, List, ◌++◌, length, take, drop, Ok, Err, Result, MatchResult}
use Rattle.shelf.specs.Meaning.{limit, State, Restocked}
use Rattle.shelf.specs.declared.refusal.Refusal.{Refusal}
use Rattle.shelf.specs.declared.fixed.FixedFile.{FixedFile}
use Rattle.shelf.specs.declared.memory.MemoryShelf.{MemoryShelf}
use Rattle.shelf.specs.declared.joined.JoinedShelf.{JoinedShelf}

-- a fixed file: the first 2^40 bytes of the client's data
abbrev pub fixed_bytes : FixedFile → List ℕ
fixed_bytes f = take limit f.«data».now

-- its stamp is the one given
abbrev pub fixed_stamp : FixedFile → ℕ
fixed_stamp f = f.stamp

-- a memory shelf: the front of the client's buffer, as long as the last accepted restock
abbrev pub memory_bytes : MemoryShelf → List ℕ
memory_bytes s = take limit (take s.count s.buffer.now)

-- its stamp is that of the last accepted restock
abbrev pub memory_stamp : MemoryShelf → ℕ
memory_stamp s = s.stamp

-- its capacity is the buffer's length, at most 2^40
abbrev pub memory_capacity : MemoryShelf → ℕ
memory_capacity s = min (length s.buffer.now) limit

-- the client's buffer after a restock: an accepted one writes the first bytes, as many as were given
abbrev pub buffer_after : List ℕ → List ℕ → Result Unit Refusal → List ℕ
buffer_after buffer given (Ok _) = given ++ drop (length given) buffer
buffer_after buffer given (Err _) = buffer

-- a restock leaves a memory shelf on the same buffer, of which it has written no more than that
pub record BufferLeft (s : MemoryShelf) (given : List ℕ) (new : ℕ) (r : Result Unit Refusal) (t : MemoryShelf) : Type 0 where
  pub holds : t.buffer.now ≡ buffer_after s.buffer.now given r
  pub lent : t.buffer.ghost_name ≡ s.buffer.ghost_name

-- a joined shelf: the first 2^40 bytes of the first's followed by the second's
abbrev pub joined_bytes : {A B : Type 0} → (A → List ℕ) → (B → List ℕ) → JoinedShelf A B → List ℕ
joined_bytes a b s = take limit (a s.first ++ b s.second)

-- its stamp is the larger of the two
abbrev pub joined_stamp : {A B : Type 0} → (A → ℕ) → (B → ℕ) → JoinedShelf A B → ℕ
joined_stamp a b s = max (a s.first) (b s.second)

-- its capacity is their sum, at most 2^40
abbrev pub joined_capacity : {A B : Type 0} → (A → ℕ) → (B → ℕ) → JoinedShelf A B → ℕ
joined_capacity a b s = min (a s.first + b s.second) limit

-- one part of a joined shelf after an accepted restock: it has what was given to it, and has left what it leaves
pub record PartRestocked {A : Type 0} (meaning : A → State) (leaves : A → List ℕ → ℕ → Result Unit Refusal → A → Type 0) (a : A) (given : List ℕ) (new : ℕ) (b : A) : Type 0 where
  pub restocked : Restocked (meaning a) given new (meaning b)
  pub left : leaves a given new (Ok tt) b

-- an accepted restock fills the first up to its capacity and gives the rest to the second, both under the new stamp; a refused one
-- leaves both as they were
abbrev pub PartsLeft : {A B : Type 0} → (A → State) → (A → List ℕ → ℕ → Result Unit Refusal → A → Type 0) → (B → State) → (B → List ℕ → ℕ → Result Unit Refusal → B → Type 0)
    → JoinedShelf A B → List ℕ → ℕ → Result Unit Refusal → JoinedShelf A B → Type 0
PartsLeft a leavesA b leavesB s given new r t =
    MatchResult r
    (λ _. PartRestocked a leavesA s.first (take (a s.first).capacity given) new t.first × PartRestocked b leavesB s.second (drop (a s.first).capacity given) new t.second)
    (λ _. (t.first ≡ s.first) × (t.second ≡ s.second))
