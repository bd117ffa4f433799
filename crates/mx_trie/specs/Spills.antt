-- The spill word of a line, put where the line needs one and given back where it needs none.
use Rattle.std.specs.Prelude.{◌≡◌, ◌≢◌, ℕ, ◌+◌, ◌<◌, ◌^◌, Bool, true, length, Option, None, Some, is_some}
use Rattle.mx_words.specs.Counting.{bit}
use Rattle.mx_pool.specs.Frames.{frame_at, IsTaken, word_at, free_in}
use Rattle.mx_trie.specs.Walk.{Frames}

pub record IsSpillPut (spill spill' : Frames) (old : Option ℕ) (needs : Bool) (word number : ℕ) : Type 0 where
  pub small : number < 2 ^ 30
  pub stored : needs ≡ true → IsTaken spill' number
  pub word_is : needs ≡ true → word_at spill' number 0 ≡ word
  pub reused : needs ≡ true → (n : ℕ) → old ≡ Some n → number ≡ n
  pub fresh : needs ≡ true → old ≡ None → frame_at spill number ≡ None
  pub elsewhere : (g : ℕ) → (needs ≡ true → g ≢ number) → old ≢ Some g → frame_at spill' g ≡ frame_at spill g
  pub free : free_in spill' + bit needs ≡ free_in spill + bit (is_some old)
  pub total : length spill' ≡ length spill
