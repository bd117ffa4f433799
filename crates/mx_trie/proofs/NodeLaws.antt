-- More laws of tables as nodes of a heap: what a table owns is taken, a table whose parts own nothing, and one whose frames stay.
use Rattle.std.proofs.Common.{◌≡◌, ℕ, ◌<◌, ◌≤◌, inl, inr, IsSome, arith}
use Rattle.std.proofs.lemmas.Bool.{cases_lt}
use Rattle.mx_trie.specs.Heap.{Heap, IsNode, NodeOwns}
use Rattle.mx_trie.proofs.HeapLaws.{taken-on}

module _ (h : Heap) (pool frame n : ℕ) (Owns : ℕ → ℕ → ℕ → Type 0) where
  pub node-taken : IsNode h pool frame n Owns → (a g : ℕ) → NodeOwns pool frame n Owns a g → IsSome (h a g)
  node-taken node a g x = grind arith

  pub node-plain : ((i a g : ℕ) → i < n → Owns i a g → ⊥) → IsSome (h pool frame) → IsNode h pool frame n Owns
  node-plain none self = search arith

module _ (h h' : Heap) (pool frame n : ℕ) (Owns Owns' : ℕ → ℕ → ℕ → Type 0) (node : IsNode h pool frame n Owns)
    (kept : (a g : ℕ) → NodeOwns pool frame n Owns a g → h' a g ≡ h a g)
    (same : (i a g : ℕ) → i < n → Owns' i a g → Owns i a g) where
  pub node-kept : IsNode h' pool frame n Owns'
  node-kept = search (arith, taken-on, kept, inr, node.parts.taken, node.parts.apart, node.other)

-- two numbers are in one order or the other
pub either : (a b : ℕ) (P : Type 0) → (a < b → P) → (b ≤ a → P) → P
either a b P before behind = elim (cases_lt a b) [ inl h ↦ before h | inr h ↦ behind h ]
