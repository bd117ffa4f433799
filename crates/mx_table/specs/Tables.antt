-- What tables of permissions mean: one map per domain, a limit, and a count of lookups.
use Rattle.std.specs.Prelude.{◌≡◌, ℕ, ◌+◌, ◌-◌, ◌<◌, ◌≤◌, List, [], slice_index_or, length, IsTrue, IsFalse}
use Rattle.std.specs.Prelude.{map as list_map}
pub use Rattle.mx_words.specs.Limits.{most_modules}
use Rattle.mx_words.specs.Limits.{most_upper, most_leaf, most_spill}
pub use Rattle.mx_words.specs.Ranges.{most_words}
use Rattle.mx_words.specs.declared.perm.Perm.{Perm}
use Rattle.mx_words.specs.declared.perm.Perm.TheVariants as P
use Rattle.mx_words.specs.declared.perm.Span.{Span}
use Rattle.mx_words.specs.declared.tables.Kind.{Kind}
use Rattle.mx_words.specs.declared.tables.Need.{Need}
use Rattle.mx_words.specs.Newest.{Grant, map}
use Rattle.mx_words.specs.Need.{need, within, fits}
use Rattle.mx_table.specs.declared.refused.BuildRefused.{BuildRefused}
use Rattle.mx_table.specs.declared.refused.BuildRefused.TheVariants.{TablesFull, NoMemory}

-- domain d's map; domains count from 1
abbrev pub map_of : List (List Perm) → ℕ → List Perm
map_of maps d = slice_index_or maps (d - 1) []

-- a domain that the maps have
pub record IsDomain (maps : List (List Perm)) (d : ℕ) : Type 0 where
  pub first : 1 ≤ d
  pub last : d ≤ length maps

-- a limit that a manifest may give
pub record IsLimit (limit : Need) : Type 0 where
  pub upper : limit.upper ≤ most_upper
  pub leaf : limit.leaf ≤ most_leaf
  pub spill : limit.spill ≤ most_spill

-- what the maps of tables always are: 1 to most_modules of them, each with one permission for each of the words, and within the
-- limit
pub record IsShaped (kind : Kind) (words : ℕ) (limit : Need) (maps : List (List Perm))
    : Type 0 where
  pub some_words : 1 ≤ words
  pub few_words : words ≤ most_words
  pub some_maps : 1 ≤ length maps
  pub few_maps : length maps ≤ most_modules
  pub each : (d : ℕ) → IsDomain maps d → length (map_of maps d) ≡ words
  pub limited : IsLimit limit
  pub fit : IsTrue (fits kind limit maps)

-- tables after a step that leaves their maps, their size and their limit as they were
pub record KeepsTables {T : Type 0} (maps : T → List (List Perm)) (size : T → ℕ) (limits : T → Need)
    (old new : T) : Type 0 where
  pub same_maps : maps new ≡ maps old
  pub same_size : size new ≡ size old
  pub same_limit : limits new ≡ limits old

-- a row's spans as grants, and its map
abbrev pub granted : Span → Grant
granted s = record { first = s.first; count = s.count; value = s.perm }

abbrev pub row_map : ℕ → List Span → List Perm
row_map words row = map (list_map granted row) words

-- what is read of a row after its last span
abbrev pub no_span : Span
no_span = record { first = 0; count = 0; perm = P.None }

-- the spans of a row: none is empty, each ends before the next begins, and the last ends in RAM
pub record IsRow (words : ℕ) (row : List Span) : Type 0 where
  pub some : (i : ℕ) → i < length row → 0 < (slice_index_or row i no_span).count
  pub sorted : (i : ℕ) → i + 1 < length row →
      (slice_index_or row i no_span).first + (slice_index_or row i no_span).count
      ≤ (slice_index_or row (i + 1) no_span).first
  pub inside : (i : ℕ) → i < length row →
      (slice_index_or row i no_span).first + (slice_index_or row i no_span).count ≤ words

-- why tables for these maps aren't built: the need of the maps, which exceeds the limit, or want of memory for maps that fit
abbrev pub IsRefused : Kind → Need → List (List Perm) → BuildRefused → Type 0
IsRefused kind limit maps (TablesFull needed) =
    (needed ≡ need kind maps) × IsFalse (within needed limit)
IsRefused kind limit maps NoMemory = IsTrue (fits kind limit maps)
