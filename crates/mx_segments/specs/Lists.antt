-- Lists of frame numbers, one for each domain.
use Rattle.std.specs.declared.alloc.Global.{Global}
use Rattle.std.specs.Prelude.{ℕ, ◌+◌, ◌-◌, ◌/◌, ◌^◌, ◌≤◌, min, List, [], slice_index_or, Vec, vec_len, vec_capacity}

-- the greatest number of frames in one list: as many as the entries of 2^24 words fill
abbrev pub longest_list : ℕ
longest_list = 2 ^ 18

-- the list at a row; rows count from 0
abbrev pub list_at : List (List ℕ) → ℕ → List ℕ
list_at lists row = slice_index_or lists row []

-- domain d's list; domains count from 1
abbrev pub chain_of : List (List ℕ) → ℕ → List ℕ
chain_of lists d = list_at lists (d - 1)

-- the lists of all domains, and how many frame numbers each of them has memory for
pub record Chained : Type 0 where
  pub lists : List (List ℕ)
  pub room : ℕ

-- a list of at most `room` numbers, with memory for that many
pub record IsRoomy (room : ℕ) (v : Vec ℕ Global) : Type 0 where
  pub few : vec_len v ≤ room
  pub memory : room ≤ vec_capacity v

-- lists of a RAM of `words` words with `total` frames have memory for as many numbers as there are frames, or as the entries of all
-- words fill
pub record HasRoom (total words room : ℕ) : Type 0 where
  pub enough : min total ((words + 63) / 64) ≤ room
