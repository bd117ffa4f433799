-- The sealed words, which no run changes, and what an audit asks of a state.
-- The rules: docs/MACHINE.md, "Live domains and sealed words".
use Rattle.std.specs.Prelude.{◌≢◌, ℕ, ◌<◌, Bool, not, ◌&&◌, nat_lt}
use Rattle.std.specs.List.{list_all}
use Rattle.mx_words.specs.declared.perm.Perm.TheVariants as P
use Rattle.mx_words.specs.Rights.{same}
use Rattle.mx_model.specs.Reads.{Reads, reads}
use Rattle.mx_model.specs.State.{Core, State}
use Rattle.mx_model.specs.Valid.{IsValid}
use Rattle.mx_laws.specs.OwnHeaps.{OwnHeaps}
use Rattle.mx_audit.specs.Live.{IsLive, is_live, live}

-- a word of RAM is sealed: its owner isn't live, and no live domain has read-write on it
pub record IsSealed (r : Reads) (c : Core) (word : ℕ) : Type 0 where
  pub in_ram : word < c.size
  pub owner : IsLive c (r.owner word) → ⊥
  pub rights : (d : ℕ) → IsLive c d → r.perm d word ≢ P.ReadWrite

-- a sealed word of a state
abbrev pub HasSealed : State → ℕ → Type 0
HasSealed s word = IsSealed (reads s) s.core word

-- whether a word is sealed
abbrev pub is_sealed : Reads → Core → ℕ → Bool
is_sealed r c word =
    nat_lt word c.size && not (is_live c (r.owner word))
    && list_all (λ d. not (same (r.perm d word) P.ReadWrite)) (live c)

-- an audit asks for a valid state, calls in flight or not, in which each heap area belongs to its module
pub record IsAudited (s : State) : Type 0 where
  pub valid : IsValid s.core
  pub heaps : OwnHeaps (reads s) s.core
