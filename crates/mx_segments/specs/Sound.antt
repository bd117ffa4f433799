-- The map that the list at a row means, and when its words are the map's entries.
use Rattle.std.specs.Prelude.{ℕ, List}
use Rattle.mx_words.specs.declared.perm.Perm.{Perm}
use Rattle.mx_pool.specs.Frames.{Frames}
use Rattle.mx_segments.specs.Store.{frames_in, word_in}
use Rattle.mx_segments.specs.Entries.{read_map, IsChain}

-- the map of the list at a row, for a RAM of `words` words
abbrev pub map_in : ℕ → Frames → List (List ℕ) → ℕ → List Perm
map_in words frames lists row = read_map words (frames_in lists row) (word_in frames lists row)

-- the words of the list at a row are the entries of its map
abbrev pub IsSound : ℕ → Frames → List (List ℕ) → ℕ → Type 0
IsSound words frames lists row =
    IsChain words (frames_in lists row) (word_in frames lists row) (map_in words frames lists row)
