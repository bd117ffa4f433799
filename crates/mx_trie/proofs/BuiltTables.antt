-- Tables that are built entry by entry in frames that were free: one law for lines, pages, regions and domains.
use Rattle.std.proofs.Common.{◌≡◌, ℕ, ◌+◌, ◌<◌, ◌⊎◌, inl, inr, IsSome, arith}
use Rattle.mx_words.proofs.CountingLaws.{cases_below}
use Rattle.mx_trie.specs.Built.{Pools, heap_of, Owning, Standing, IsBuilt, AreBuilt}
use Rattle.mx_trie.proofs.HeapLaws.{taken-on}

-- the frame law: where the frames of an entry stay, it owns no more, and stands for its block as before
abbrev pub IsSteady : Owning → Standing → Type 0
IsSteady Owns Stands =
    (s s' : Pools) (block e : ℕ) → Stands s block e → ((a g : ℕ) → Owns s e a g → heap_of s' a g ≡ heap_of s a g) →
    ((a g : ℕ) → Owns s' e a g → Owns s e a g) × Stands s' block e

-- the next entry is built, and then written in the table's own frame
module _ (Owns : Owning) (Stands : Standing) (steady : IsSteady Owns Stands) (s0 s sm s' : Pools)
    (Self : ℕ → ℕ → Type 0) (block : ℕ → ℕ) (n : ℕ) (entry entry' : ℕ → ℕ) (e : ℕ)
    (are : AreBuilt Owns Stands s0 s Self block n entry) (part : IsBuilt Owns Stands s sm (block n) e)
    (write : (a g : ℕ) → (Self a g → ⊥) → heap_of s' a g ≡ heap_of sm a g)
    (self : (a g : ℕ) → Self a g → IsSome (heap_of s' a g)) (others : (k : ℕ) → k < n → entry' k ≡ entry k)
    (here : entry' n ≡ e) where
  -- what entry k owns, was owned or is built now
  owned : (k a g : ℕ) → k < n + 1 → Owns s' (entry' k) a g →
      ((k < n) × Owns s (entry k) a g) ⊎ ((k ≡ n) × Owns sm e a g)
  owned k a g below own = elim (cases_below k n (omega arith)) [
    | inl h ↦ inl (
      h,
      (steady s s' (block k) (entry k) (are.stand k h) (search (write, part.stays, are.parts.taken, are.other))).0 a g
          (rw (others k h) at own),
    )
    | inr h ↦ inr (h, (steady sm s' (block n) e part.stands (search (write, part.fresh, are.self))).0 a g (rw here at (rw h at own)))
  ]

  pub built-more : AreBuilt Owns Stands s0 s' Self block (n + 1) entry'
  built-more =
      search (
        arith,
        owned,
        are.parts.apart,
        are.parts.taken,
        part.fresh,
        part.taken,
        write,
        part.stays,
        are.self,
        are.other,
        taken-on,
        are.stays,
        are.fresh,
        steady,
        others,
        are.stand,
      )

-- the entry of a table that is built, at the level above, which owns what the table and its entries own
pub table-built : (Owns Owns' : Owning) (Stands Stands' : Standing) (s s' : Pools) (Self : ℕ → ℕ →
    Type 0) (block : ℕ → ℕ) (n : ℕ) (entry : ℕ → ℕ) (b e : ℕ) →
    AreBuilt Owns Stands s s' Self block n entry →
    ((a g : ℕ) → Owns' s' e a g → Self a g ⊎ ((k : ℕ) × ((k < n) × Owns s' (entry k) a g))) → Stands' s' b e →
    IsBuilt Owns' Stands' s s' b e
table-built Owns Owns' Stands Stands' s s' Self block n entry b e are fewer stands =
    search (arith, are.stays, are.fresh, are.self, are.parts.taken)
