-- A change of rights as the tables take it, and what it does to the maps of all domains.
use Rattle.std.specs.Prelude.{◌≡◌, ℕ, ◌+◌, ◌<◌, ◌≤◌, ◌⊎◌, List, slice_index_or, Option, None}
use Rattle.mx_words.specs.declared.perm.Perm.{Perm}
use Rattle.mx_words.specs.Changes.{changed_maps}
use Rattle.mx_table.specs.declared.change.Change.{Change}

-- what a change gives a domain on its range, if anything
abbrev pub given : Change → ℕ → Option Perm
given c d = slice_index_or c.perms d None

-- the maps of all domains after a change
abbrev pub changed : Change → List (List Perm) → List (List Perm)
changed c maps = changed_maps c.first c.count (given c) maps

-- a change of a RAM of `words` words for domains 1 to `modules`: its range isn't empty and lies in RAM, and it names no other domain
pub record IsLawful (c : Change) (words modules : ℕ) : Type 0 where
  pub some : 0 < c.count
  pub inside : c.first + c.count ≤ words
  pub named : (d : ℕ) → (d ≡ 0) ⊎ (modules < d) → given c d ≡ None
