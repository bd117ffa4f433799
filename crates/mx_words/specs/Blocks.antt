-- The aligned blocks of a map by their numbers. Words outside RAM have no permission.
use Rattle.std.specs.Prelude.{◌≡◌, ℕ, ◌+◌, ◌*◌, ◌<◌, Bool, not, List, take, drop}
use Rattle.mx_words.specs.declared.perm.Perm.{Perm}
use Rattle.mx_words.specs.Rights.{perm_at}
use Rattle.mx_words.specs.Runs.{is_eighth_uniform}

-- block b of `size` words, cut at RAM's end
abbrev pub block_of : ℕ → List Perm → ℕ → List Perm
block_of size m b = take size (drop (b * size) m)

-- whether block b isn't eighth-uniform
abbrev pub is_broken : ℕ → List Perm → ℕ → Bool
is_broken size m b = not (is_eighth_uniform size (block_of size m b))

-- the words first to first + size - 1 have one permission
pub record IsUniform (m : List Perm) (first size : ℕ) : Type 0 where
  pub alike : (k : ℕ) → k < size → perm_at m (first + k) ≡ perm_at m first

-- each of the eight parts of `part` words, from word first on, has one permission
pub record IsEven (m : List Perm) (first part : ℕ) : Type 0 where
  pub parts : (e : ℕ) → e < 8 → IsUniform m (first + e * part) part
