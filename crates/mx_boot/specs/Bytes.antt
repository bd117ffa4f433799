-- The files of a plan's modules, images or inputs.
use Rattle.std.specs.Prelude.{ℕ, ◌<◌, List, [], slice_index, slice_index_or}

-- each byte of each file is a byte
pub record AreBytes (files : List (List ℕ)) : Type 0 where
  pub bytes : (i k : ℕ) → slice_index (slice_index_or files i []) k < 256
