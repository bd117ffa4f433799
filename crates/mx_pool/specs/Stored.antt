-- How a pool stores its frames, and what stays true of it.
use Rattle.std.specs.Prelude.{ℕ, ◌≡◌, ◌<◌, ◌*◌, ◌^◌, Bool, false, not, if◌then◌else◌, List, [], ◌∷◌, None, Some, length, take, drop}
use Rattle.std.specs.Prelude.{slice_index, slice_index_or, count_by}
use Rattle.mx_pool.specs.Frames.{Frames}

-- the frames in a flat store: `size` words for each, and none where it is not marked as taken
unfoldable pub frames_of : ℕ → List ℕ → List Bool → Frames
frames_of size words [] = []
frames_of size words (t ∷ ts) =
    (if t then Some (take size words) else None) ∷ frames_of size (drop size words) ts

-- the first `spare` entries of `free` are the frames that are not taken, each once
pub record IsPool (size : ℕ) (words : List ℕ) (taken : List Bool) (free : List ℕ) (spare : ℕ)
    : Type 0 where
  pub room : length words ≡ length taken * size
  pub stack : length free ≡ length taken
  pub small : length taken < 2 ^ 30
  pub counted : spare ≡ count_by not taken
  pub listed : (i : ℕ) → i < spare → slice_index free i < length taken
  pub unmarked : (i : ℕ) → i < spare → slice_index_or taken (slice_index free i) false ≡ false
  pub apart : (i j : ℕ) → i < spare → j < spare → slice_index free i ≡ slice_index free j → i ≡ j
