-- Words that the domains of a run may not write.
-- The rules: docs/MACHINE.md, "Memory, domains, harts".
use Rattle.std.specs.Prelude.{◌≡◌, ℕ, ◌<◌, ◌≤◌, false, List, length}
use Rattle.std.specs.List.{AllByRecursion}
use Rattle.mx_words.specs.declared.perm.Perm.{Perm}
use Rattle.mx_words.specs.declared.perm.Access.TheVariants as A
use Rattle.mx_words.specs.Rights.{allows}
use Rattle.mx_model.specs.Reads.{Reads, reads}
use Rattle.mx_model.specs.Run.{Schedule, hart_of, is_stopped, run}
use Rattle.mx_model.specs.State.{Flat, State}
use Rattle.mx_model.specs.Valid.{IsValid}
use Rattle.mx_laws.specs.After.{domain_at}

-- a valid state with one list of grants for each module
pub record HasLists (s : State) : Type 0 where
  pub valid : IsValid s.core
  pub lists : length s.grants ≡ length s.core.modules

-- a valid core with one map for each module, each of RAM's words
pub record HasMaps (f : Flat) : Type 0 where
  pub valid : IsValid f.core
  pub maps : length f.maps ≡ length f.core.modules
  pub whole : AllByRecursion (λ (m : List Perm). length m ≡ f.core.size) f.maps

-- a domain may not write a word
abbrev pub MayNotWrite : Reads → ℕ → ℕ → Type 0
MayNotWrite r d w = allows (r.perm d w) A.Write ≡ false

-- it may write it in none of the states that a run of n turns goes through, the first and the last included
abbrev pub NeverWrites : Schedule → State → ℕ → ℕ → ℕ → Type 0
NeverWrites schedule s n d w = (k : ℕ) → k ≤ n → MayNotWrite (reads (run schedule k s)) d w

-- the next turn of a run is made, by a hart that is there and in a domain
pub record MakesTurn (schedule : Schedule) (s : State) (d : ℕ) : Type 0 where
  pub going : is_stopped schedule s ≡ false
  pub there : hart_of schedule s.core < length s.core.harts
  pub domain : domain_at s.core (hart_of schedule s.core) ≡ d

-- a schedule names a hart that isn't there for the next turn
abbrev pub NamesNobody : Schedule → State → Type 0
NamesNobody schedule s = length s.core.harts ≤ hart_of schedule s.core

-- each domain of a hart that makes one of the n turns of a run may write a word in none of its states
abbrev pub AreAllForeign : Schedule → State → ℕ → ℕ → Type 0
AreAllForeign schedule s n w =
    (d k : ℕ) → k < n → MakesTurn schedule (run schedule k s) d → NeverWrites schedule s n d w
