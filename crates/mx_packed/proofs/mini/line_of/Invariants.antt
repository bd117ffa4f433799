use Rattle.std.proofs.Common.{◌≡◌, length, List}
use Rattle.mx_words.specs.declared.perm.Perm.{Perm}
use Rattle.mx_trie.specs.Codes.{value_code, start_code}
use Rattle.mx_trie.specs.Decoded.{IsDecoded}
use Rattle.mx_packed.proofs.mini.line_of.Given as goal

abbrev pub invariant-loop-place : goal.invariant-loop-place
invariant-loop-place l =
    (length l.line ≡ 16)
    × ((perms : List Perm) → length perms ≡ 16 → l.values ≡ value_code perms → l.starts ≡ start_code 0 perms
    → IsDecoded perms l.line l.place l.values_left l.starts_left)
