-- The parts of a packed entry.
use Rattle.std.proofs.Common.{◌≡◌, ℕ, ◌/◌, ◌%◌, ◌≤◌, List, length, arith}
use Rattle.mx_words.specs.declared.perm.Perm.{Perm}
use Rattle.mx_words.specs.Rights.{same}
use Rattle.mx_words.specs.Runs.{runs, runs_of}
use Rattle.mx_words.specs.Reach.{mini_entry}
use Rattle.mx_trie.specs.Codes.{value_code, start_code}
use Rattle.mx_trie.proofs.RunCodes.{mini-codes, value_code-below, start_code-below}

-- the parts of an entry
pub record IsMade (perms : List Perm) (left right entry : ℕ) : Type 0 where
  pub few : runs perms ≤ 4
  pub values : entry / 4 % 256 ≡ value_code perms
  pub starts : entry / 1024 % 4096 ≡ start_code 0 perms
  pub left_is : entry / 134217728 ≡ left
  pub right_is : entry / 4194304 % 32 ≡ right
  pub tagged : entry % 4 ≡ 2
  pub entry_is : entry ≡ mini_entry (runs_of same perms) left right

pub mini-made : (perms : List Perm) (left right entry : ℕ) → length perms ≤ 16 → left ≤ 31 → right ≤ 31 →
    runs perms ≤ 4 →
    entry ≡ mini_entry (runs_of same perms) left right → IsMade perms left right entry
mini-made perms left right entry short l r few e =
    omega (arith, mini-codes perms left right few, value_code-below perms 4 few, start_code-below 0 perms 3 (omega arith) (omega arith))
