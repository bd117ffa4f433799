-- A line that is read back from its codes, word by word from its first.
use Rattle.std.specs.Prelude.{◌≡◌, ℕ, ◌<◌, List, drop}
use Rattle.mx_words.specs.declared.perm.Perm.{Perm}
use Rattle.mx_words.specs.Rights.{perm_at}
use Rattle.mx_trie.specs.Codes.{value_code, start_code}

-- the first words stand in the line, and the codes that are left are those of the other words
pub record IsDecoded (perms line : List Perm) (place values starts : ℕ) : Type 0 where
  pub done : (k : ℕ) → k < place → perm_at line k ≡ perm_at perms k
  pub values_left : place < 16 → values ≡ value_code (drop place perms)
  pub starts_left : place < 16 → starts ≡ start_code place (drop place perms)
