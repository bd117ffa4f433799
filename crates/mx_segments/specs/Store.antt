-- The words of the lists' frames. A list's words are those of its frames, 64 in each, one frame after the other.
use Rattle.std.specs.Prelude.{ℕ, ◌≡◌, ◌≢◌, ◌+◌, ◌*◌, ◌/◌, ◌%◌, ◌<◌, ◌≤◌, List, length, slice_index, sum_by}
use Rattle.mx_pool.specs.Frames.{Frames, IsTaken, word_at, free_in}
use Rattle.mx_segments.specs.Lists.{list_at}

-- how many frames the list at a row has
abbrev pub frames_in : List (List ℕ) → ℕ → ℕ
frames_in lists row = length (list_at lists row)

-- the frame at a place of the list at a row
abbrev pub frame_in : List (List ℕ) → ℕ → ℕ → ℕ
frame_in lists row i = slice_index (list_at lists row) i

-- word i of the list at a row
abbrev pub word_in : Frames → List (List ℕ) → ℕ → ℕ → ℕ
word_in frames lists row i = word_at frames (frame_in lists row (i / 64)) (i % 64)

-- the lists' frames are taken, each stands once in one list, and all other frames are free
pub record IsStore (frames : Frames) (lists : List (List ℕ)) : Type 0 where
  pub taken : (row i : ℕ) → i < frames_in lists row → IsTaken frames (frame_in lists row i)
  pub apart : (row i other j : ℕ) → i < frames_in lists row → j < frames_in lists other →
      frame_in lists row i ≡ frame_in lists other j → (row ≡ other) × (i ≡ j)
  pub counted : free_in frames + sum_by length lists ≡ length frames

-- a change of the list at one row leaves the lists at all others, and their words
pub record KeepsOthers (frames : Frames) (lists : List (List ℕ)) (frames' : Frames)
    (lists' : List (List ℕ)) (row : ℕ) : Type 0 where
  pub rows : length lists' ≡ length lists
  pub total : length frames' ≡ length frames
  pub chains : (other : ℕ) → other ≢ row → list_at lists' other ≡ list_at lists other
  pub words : (other i : ℕ) → other ≢ row → i < 64 * frames_in lists other →
      word_in frames' lists' other i ≡ word_in frames lists other i

-- words of the list at one row are written, and nothing else changes
pub record IsRewritten (frames frames' : Frames) (lists : List (List ℕ)) (row : ℕ) : Type 0 where
  pub store : IsStore frames' lists
  pub others : KeepsOthers frames lists frames' lists row
  pub free : free_in frames' ≡ free_in frames

-- of a list's words, those from `from` on are copied to the places from `to` on, `count` of them, and the others stay
pub record IsPieceCopied (old new : ℕ → ℕ) (from to count size : ℕ) : Type 0 where
  pub copied : (k : ℕ) → k < count → new (to + k) ≡ old (from + k)
  pub below : (j : ℕ) → j < to → j < size → new j ≡ old j
  pub behind : (j : ℕ) → to + count ≤ j → j < size → new j ≡ old j
