-- The frames of all pools side by side, and what a step does to the frames that it owns.
use Rattle.std.specs.Prelude.{◌≡◌, ℕ, zero, suc, ◌<◌, ◌⊎◌, List, Option, None, IsSome}
use Rattle.mx_pool.specs.Frames.{frame_at}
use Rattle.mx_trie.specs.Walk.{Frames}

-- frames by the number of their pool, and their own
abbrev pub Heap : Type 0
Heap = ℕ → ℕ → Option (List ℕ)

-- pool 0 has root and mid tables, pool 1 leaf tables, pool 2 spill words
abbrev pub heap : Frames → Frames → Frames → Heap
heap upper leaf spill zero = frame_at upper
heap upper leaf spill (suc zero) = frame_at leaf
heap upper leaf spill (suc (suc zero)) = frame_at spill
heap upper leaf spill (suc (suc (suc a))) = λ g. None

-- a step from the frames that were owned to those that are: all other frames stay, and what was another's isn't
-- owned
pub record IsMove (h h' : Heap) (Owns Owns' : ℕ → ℕ → Type 0) : Type 0 where
  pub stays : (a g : ℕ) → IsSome (h a g) → (Owns a g → ⊥) → h' a g ≡ h a g
  pub none : (a g : ℕ) → IsSome (h a g) → (Owns a g → ⊥) → Owns' a g → ⊥

-- each of n owners has frames of its own, which are taken
pub record IsFamily (h : Heap) (n : ℕ) (Owns : ℕ → ℕ → ℕ → Type 0) : Type 0 where
  pub taken : (i a g : ℕ) → i < n → Owns i a g → IsSome (h a g)
  pub apart : (i j a g : ℕ) → i < n → j < n → Owns i a g → Owns j a g → i ≡ j

-- a table in a frame of its own, whose n parts have frames of their own
pub record IsNode (h : Heap) (pool frame n : ℕ) (Owns : ℕ → ℕ → ℕ → Type 0) : Type 0 where
  pub self : IsSome (h pool frame)
  pub parts : IsFamily h n Owns
  pub other : (i : ℕ) → i < n → Owns i pool frame → ⊥

-- what a table owns: its frame, and what its parts own
abbrev pub NodeOwns : ℕ → ℕ → ℕ → (ℕ → ℕ → ℕ → Type 0) → ℕ → ℕ → Type 0
NodeOwns pool frame n Owns a g = ((a ≡ pool) × (g ≡ frame)) ⊎ ((i : ℕ) × ((i < n) × Owns i a g))
