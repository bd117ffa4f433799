-- Words on the meaning of a pool: a list with one place for each frame.
use Rattle.std.specs.Prelude.{ℕ, List, [], Option, None, IsSome, is_none, unwrap_or, slice_index, slice_index_or, count_by}

-- what a pool shows
abbrev pub Frames : Type 0
Frames = List (Option (List ℕ))

-- what frame f holds: its words where it is taken, and nothing where it is free or there is no such frame
abbrev pub frame_at : Frames → ℕ → Option (List ℕ)
frame_at frames f = slice_index_or frames f None

-- frame f is taken
abbrev pub IsTaken : Frames → ℕ → Type 0
IsTaken frames f = IsSome (frame_at frames f)

-- the words of a taken frame
abbrev pub words_of : Frames → ℕ → List ℕ
words_of frames f = unwrap_or (frame_at frames f) []

-- the word at a place of a taken frame
abbrev pub word_at : Frames → ℕ → ℕ → ℕ
word_at frames f place = slice_index (words_of frames f) place

-- how many frames are free
abbrev pub free_in : Frames → ℕ
free_in frames = count_by is_none frames
