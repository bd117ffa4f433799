-- What stays true of segment tables: the words that stand in their frames, and how many frames are taken.
use Rattle.std.specs.Prelude.{ℕ, ◌≡◌, ◌+◌, ◌*◌, ◌<◌, ◌≤◌, List, length, sum_by}
use Rattle.mx_words.specs.declared.perm.Perm.{Perm}
use Rattle.mx_words.specs.declared.tables.Need.{Need}
use Rattle.mx_words.specs.Counting.{list_below}
use Rattle.mx_table.specs.Tables.{most_words, most_modules, IsLimit}
use Rattle.mx_pool.specs.Frames.{Frames}
use Rattle.mx_segments.specs.Lists.{HasRoom}
use Rattle.mx_segments.specs.Store.{IsStore}
use Rattle.mx_segments.specs.Sound.{map_in, IsSound}

-- the maps of all domains, which count from 1 while rows count from 0
abbrev pub maps_in : ℕ → Frames → List (List ℕ) → List (List Perm)
maps_in words frames lists = list_below (length lists) (map_in words frames lists)

-- each list's words are the entries of its map, in as few frames as hold them, and no frame serves two lists or two places; the
-- frames are the limit's number and two for each domain, of which the lists have at most the limit's number, and memory for more
pub record IsKept (frames : Frames) (lists : List (List ℕ)) (memory words : ℕ) (limit : Need)
    : Type 0 where
  pub store : IsStore frames lists
  pub some_words : 1 ≤ words
  pub few_words : words ≤ most_words
  pub some_rows : 1 ≤ length lists
  pub few_rows : length lists ≤ most_modules
  pub sound : (row : ℕ) → row < length lists → IsSound words frames lists row
  pub room : length frames ≡ limit.leaf + 2 * length lists
  pub memory_for : HasRoom (length frames) words memory
  pub limited : IsLimit limit
  pub fit : sum_by length lists ≤ limit.leaf
