-- Packed entries of lines.
use Rattle.std.specs.Prelude.{◌≡◌, ℕ, nat_lt, List, length, if◌then◌else◌, Option, Some, None}
use Rattle.mx_words.specs.declared.perm.Perm.{Perm}
use Rattle.mx_words.specs.Rights.{same}
use Rattle.mx_words.specs.Runs.{runs, runs_of, line_words}
use Rattle.mx_words.specs.Reach.{mini_entry}
use Rattle.mx_trie.specs.Codes.{value_code, start_code}

-- the packed entry of a line's permissions with both reaches, and nothing where it has more than four runs
abbrev pub pack_of : List Perm → ℕ → ℕ → Option ℕ
pack_of perms left right =
    if nat_lt 4 (runs perms) then None else Some (mini_entry (runs_of same perms) left right)

-- the permissions and the starts of the runs of some line
pub record IsCoded (values starts : ℕ) : Type 0 where
  pub perms : List Perm
  pub whole : length perms ≡ line_words
  pub values_are : values ≡ value_code perms
  pub starts_are : starts ≡ start_code 0 perms
