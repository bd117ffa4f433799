-- Numbers in a list of bytes, each little-endian. A byte past the end counts as 0.
-- The rules: docs/COMMANDS.md, "The manifest".
use Rattle.std.specs.Prelude.{ℕ, zero, suc, ◌+◌, List, [], ◌∷◌, slice_index}
use Rattle.mx_words.specs.Bytes.{number_at}

-- the byte at a place
abbrev pub byte_at : List ℕ → ℕ → ℕ
byte_at bytes at = slice_index bytes at

-- the number of the 2 bytes from a place on
unfoldable pub half_at : List ℕ → ℕ → ℕ
half_at bytes at = number_at bytes at 2

-- the number of the 4 bytes from a place on
unfoldable pub word_at : List ℕ → ℕ → ℕ
word_at bytes at = number_at bytes at 4

-- the places of count records of size bytes, one right after the other, the first at start
abbrev pub places : ℕ → ℕ → ℕ → List ℕ
places start size zero = []
places start size (suc count) = start ∷ places (start + size) size count
