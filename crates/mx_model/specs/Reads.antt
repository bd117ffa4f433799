-- What a turn reads of rights and owners. The two kinds of state answer it alike, so a turn is one function of these answers.
-- The rules: docs/MACHINE.md, "Memory, domains, harts".
use Rattle.std.specs.Prelude.{ℕ, ◌-◌, Bool, nat_lt, nat_le, List, [], ◌∷◌, ◌++◌, slice_index, slice_index_or, if◌then◌else◌, Option}
use Rattle.std.specs.Prelude.{map as list_map}
use Rattle.mx_words.specs.declared.perm.Perm.{Perm}
use Rattle.mx_words.specs.declared.perm.Perm.TheVariants as P
use Rattle.mx_words.specs.declared.perm.Span.{Span}
use Rattle.mx_words.specs.Rights.{perm_at}
use Rattle.mx_words.specs.Newest.{Grant, Give, at, owner, map, owners, laid}
use Rattle.mx_words.specs.Changes.{changed_maps, granted_all}
use Rattle.mx_words.specs.Runs.{owner_runs, most_owner_runs}
use Rattle.mx_words.specs.Need.{fits}
use Rattle.mx_words.specs.Reach.{span}
use Rattle.mx_model.specs.State.{State, Flat}

-- a change of rights: a range, and the permission that each domain named gets on it
pub record Change : Type 0 where
  pub first : ℕ
  pub count : ℕ
  pub given : ℕ → Option Perm

pub record Reads : Type 0 where
  -- the permission of a domain on a word, none outside RAM
  pub perm : ℕ → ℕ → Perm
  -- the owner of a word
  pub owner : ℕ → ℕ
  -- the span that a walk of the tables answers for a domain and a word
  pub walk : ℕ → ℕ → Span
  -- whether the maps after a change fit the limit
  pub fits : Change → Bool
  -- whether the owners' runs after a give are at most 4096
  pub few_runs : Give → Bool

-- a domain's grants, and its map, for a domain from 1 on; one above the last has no rights
abbrev pub grants_of : List (List Grant) → ℕ → List Grant
grants_of grants d = slice_index_or grants (d - 1) []

abbrev pub map_in : ℕ → List (List Perm) → ℕ → List Perm
map_in size maps d = slice_index_or maps (d - 1) (map [] size)

-- what a state answers from its lists of grants and gives
abbrev pub reads : State → Reads
reads s =
    let size = s.core.size in
    record {
      perm = λ d i. if nat_lt i size then at (grants_of s.grants d) i else P.None;
      owner = λ i. if nat_lt i size then owner s.gives i else 0;
      walk = λ d i. span s.core.kind (map (grants_of s.grants d) size) i;
      fits = λ (c : Change). fits s.core.kind s.core.limit
          (list_map (λ grants. map grants size) (granted_all c.first c.count c.given s.grants));
      few_runs = λ give. nat_le (owner_runs (owners (s.gives ++ give ∷ []) size)) most_owner_runs;
    }

-- what a flat state answers from its maps and its owners
abbrev pub flat_reads : Flat → Reads
flat_reads f =
    let size = f.core.size in
    record {
      perm = λ d i. perm_at (map_in size f.maps d) i;
      owner = λ i. slice_index f.owners i;
      walk = λ d i. span f.core.kind (map_in size f.maps d) i;
      fits = λ (c : Change). fits f.core.kind f.core.limit
          (changed_maps c.first c.count c.given f.maps);
      few_runs = λ give. nat_le (owner_runs (laid give f.owners)) most_owner_runs;
    }
