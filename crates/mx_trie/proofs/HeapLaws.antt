-- Laws of frames and their owners: a step after a step, one owner of a family that makes a step, and one part of a table. They hold at
-- each level alike: lines of a leaf table, pages of a mid table, regions of a root table, and domains.
use Rattle.std.proofs.Common.{◌≡◌, ◌≢◌, ℕ, ◌<◌, ◌⊎◌, Option, List, IsSome, sym, subst, arith}
use Rattle.std.proofs.lemmas.Bool.{cases_eq}
use Rattle.mx_trie.specs.Heap.{Heap, IsMove, IsFamily, IsNode, NodeOwns}

-- a frame that stays is still taken
pub taken-on : (h h' : Heap) (a g : ℕ) → h' a g ≡ h a g → IsSome (h a g) → IsSome (h' a g)
taken-on h h' a g same taken = subst (λ (o : Option (List ℕ)). IsSome o) (sym same) taken

-- a step after a step
pub move-then : (h h' h'' : Heap) (Owns Owns' Owns'' : ℕ → ℕ → Type 0) → IsMove h h' Owns Owns' →
    IsMove h' h'' Owns' Owns'' → IsMove h h'' Owns Owns''
move-then h h' h'' Owns Owns' Owns'' one two = search (arith, two.stays, taken-on, one.stays, one.none, two.none)

-- no step
pub move-none : (h : Heap) (Owns Owns' : ℕ → ℕ → Type 0) → ((a g : ℕ) → Owns' a g → Owns a g) → IsMove h h Owns Owns'
move-none h Owns Owns' fewer = search arith

-- of n owners owner k makes a step, and the others own no more than before; frames of theirs stay
module _ (h h' : Heap) (n : ℕ) (Owns Owns' : ℕ → ℕ → ℕ → Type 0) (k : ℕ) (within : k < n) (family : IsFamily h n Owns)
    (same : (i a g : ℕ) → i < n → i ≢ k → Owns' i a g → Owns i a g)
    (kept : (i a g : ℕ) → i < n → i ≢ k → Owns i a g → h' a g ≡ h a g)
    (fresh : (a g : ℕ) → IsSome (h a g) → (Owns k a g → ⊥) → Owns' k a g → ⊥)
    (taken : (a g : ℕ) → Owns' k a g → IsSome (h' a g)) where
  taken-now : (i a g : ℕ) → i < n → (i ≡ k) ⊎ (i ≢ k) → Owns' i a g → IsSome (h' a g)
  taken-now i a g below x own = grind (arith, taken-on)

  -- what owner k owns now isn't another's
  not-both : (j a g : ℕ) → j < n → j ≢ k → Owns' k a g → Owns' j a g → ⊥
  not-both j a g below ne mine other = search (arith, family.taken, family.apart)

  apart-now : (i j a g : ℕ) → i < n → j < n → (i ≡ k) ⊎ (i ≢ k) → (j ≡ k) ⊎ (j ≢ k) → Owns' i a g → Owns' j a g → i ≡ j
  apart-now i j a g bi bj x x1 own other = grind (arith, not-both)

  pub family-put : IsFamily h' n Owns'
  family-put = search (arith, taken-now, cases_eq, apart-now)

-- part k of a table makes a step, and then its entry is written in the table's own frame
module _ (h h' : Heap) (pool frame n : ℕ) (Owns Owns' : ℕ → ℕ → ℕ → Type 0) (k : ℕ) (within : k < n)
    (node : IsNode h pool frame n Owns)
    (same : (i a g : ℕ) → i < n → i ≢ k → Owns' i a g → Owns i a g)
    (stays : (a g : ℕ) → IsSome (h a g) → (Owns k a g → ⊥) → ((a ≡ pool) × (g ≡ frame) → ⊥) → h' a g ≡ h a g)
    (fresh : (a g : ℕ) → IsSome (h a g) → (Owns k a g → ⊥) → Owns' k a g → ⊥)
    (taken : (a g : ℕ) → Owns' k a g → IsSome (h' a g))
    (self : IsSome (h' pool frame)) where
  parts-kept : (i a g : ℕ) → i < n → i ≢ k → Owns i a g → h' a g ≡ h a g
  parts-kept i a g below ne own = search (arith, node.parts.taken, node.parts.apart, node.other)

  other-now : (i : ℕ) → i < n → (i ≡ k) ⊎ (i ≢ k) → Owns' i pool frame → ⊥
  other-now i below x own = grind arith

  pub node-put : IsNode h' pool frame n Owns'
  node-put = search (arith, family-put, node.parts, parts-kept, other-now, cases_eq)

  none-now : (a g : ℕ) → IsSome (h a g) → (NodeOwns pool frame n Owns a g → ⊥) → (i : ℕ) → i < n → (i ≡ k) ⊎ (i ≢ k) →
      Owns' i a g → ⊥
  none-now a g there not i below x own = grind arith

  none-owned : (a g : ℕ) → IsSome (h a g) → (NodeOwns pool frame n Owns a g → ⊥) → NodeOwns pool frame n Owns' a g → ⊥
  none-owned a g there not x = grind (arith, none-now, cases_eq)

  pub node-move : IsMove h h' (NodeOwns pool frame n Owns) (NodeOwns pool frame n Owns')
  node-move = search (arith, none-owned)
