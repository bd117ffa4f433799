-- The entries of a map's runs, and how the words of a list mean a map.
use Rattle.std.specs.Prelude.{ℕ, ◌≡◌, ◌+◌, ◌-◌, ◌*◌, ◌%◌, ◌<◌, ◌≤◌, Bool, true, ◌&&◌, nat_lt, nat_le, List, length, unwrap_or}
use Rattle.mx_words.specs.declared.perm.Perm.{Perm}
use Rattle.mx_words.specs.declared.perm.Perm.TheVariants as P
use Rattle.mx_words.specs.Rights.{number, from_number, perm_at}
use Rattle.mx_words.specs.Ranges.{address_of}
use Rattle.mx_words.specs.Counting.{count_below, list_below}
use Rattle.mx_words.specs.Runs.{runs}
use Rattle.mx_words.specs.Need.{segment_frames}
use Rattle.mx_words.specs.Starts.{is_start}

-- the entry of a run that begins at a word with a permission: the word's address, with the permission in bits 1..0.
-- The item that is shown of a run, `shown_run`, holds the same word; here the run's length isn't known
abbrev pub entry_word : ℕ → Perm → ℕ
entry_word word p = address_of word + number p

-- the permission of an entry
abbrev pub perm_of : ℕ → Perm
perm_of entry = unwrap_or (from_number (entry % 4)) P.None

-- whether a stored word is an entry of a run that begins before a word; 0 is no entry
abbrev pub begins_before : ℕ → ℕ → Bool
begins_before stored word = nat_lt 0 stored && nat_lt stored (address_of word)

-- the word at which run k of a map begins; runs count from 0
abbrev pub run_start : List Perm → ℕ → ℕ
run_start m k = count_below (length m) (λ i. nat_le (count_below (i + 1) (is_start m)) k)

-- entry k of a map
abbrev pub entry_of : List Perm → ℕ → ℕ
entry_of m k = entry_word (run_start m k) (perm_at m (run_start m k))

-- the permission that the words of `frames` frames give word i: that of the last entry that begins at it or before
abbrev pub read_at : ℕ → (ℕ → ℕ) → ℕ → Perm
read_at frames stored i =
    perm_of (stored (count_below (64 * frames) (λ k. begins_before (stored k) (i + 1)) - 1))

-- the map that they mean
abbrev pub read_map : ℕ → ℕ → (ℕ → ℕ) → List Perm
read_map words frames stored = list_below words (read_at frames stored)

-- the words of `frames` frames are the entries of a map's runs, in order and as few frames as hold them, and zeros after
pub record IsChain (words frames : ℕ) (stored : ℕ → ℕ) (m : List Perm) : Type 0 where
  pub length_is : length m ≡ words
  pub frames_are : frames ≡ segment_frames m
  pub entries : (i : ℕ) → i < words → is_start m i ≡ true →
      stored (count_below i (is_start m)) ≡ entry_word i (perm_at m i)
  pub rest : (k : ℕ) → runs m ≤ k → k < 64 * frames → stored k ≡ 0
