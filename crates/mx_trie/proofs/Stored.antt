-- What stands stored for a line of a map, as the leaf form's calls ask for it.
use Rattle.std.proofs.Common.{◌≡◌, ℕ, ◌+◌, ◌*◌, ◌^◌, ◌<◌, ◌≤◌, List, length, if◌then◌else◌, Some, None, arith}
use Rattle.std.proofs.lemmas.Bool.{cases_lt}
use Rattle.mx_words.specs.declared.perm.Perm.{Perm}
use Rattle.mx_words.specs.declared.tables.Kind.{Kind}
use Rattle.mx_words.specs.Reach.{line_at}
use Rattle.mx_table.specs.Tables.{most_words}
use Rattle.mx_trie.specs.Leaf.{IsTrieKind, form_reach, needs_spill, IsStored}
use Rattle.mx_trie.specs.Walk.{Frames, most_lines, spilled_word, line_number, map_left, map_right}
use Rattle.mx_trie.specs.Shown.{IsLine}
use Rattle.mx_trie.proofs.Backs.{is-back, is-ahead}
use Rattle.mx_trie.proofs.LineReaches.{left-back, left-out, right-ahead, right-out}
use Rattle.mx_trie.proofs.LeafSpans.{length-line}
use Rattle.mx_trie.proofs.EntryLaws.{named-by}
use Rattle.mx_trie.specs.Leaf.{spill_number}

-- both reaches of a line by the map
pub record AreReaches (kind : Kind) (m : List Perm) (z left right : ℕ) : Type 0 where
  pub left_most : left ≤ form_reach kind
  pub right_most : right ≤ form_reach kind
  pub before : left ≤ z * 16
  pub behind : z * 16 + 16 + right ≤ 2 ^ 24

pub reaches-fit : (kind : Kind) (m : List Perm) (z : ℕ) → length m ≤ most_words → z < most_lines →
    AreReaches kind m z (map_left kind m z) (map_right kind m z)
reaches-fit kind m z few below =
    search (arith, cases_lt, left-back, right-ahead, is-back, is-ahead, left-out, right-out)

-- a line's entry names its spill word exactly where the line needs one
pub line-named : (kind : Kind) → IsTrieKind kind → (spill : Frames) (m : List Perm) (z e : ℕ) →
    IsLine kind spill m z e →
    spill_number kind e ≡ (if needs_spill kind (line_at m (z * 16)) then Some (line_number kind e) else None)
line-named kind k spill m z e line = search (arith, named-by)

pub line-stored : (kind : Kind) → IsTrieKind kind → (spill : Frames) (m : List Perm) (z e : ℕ) →
    length m ≤ most_words → z < most_lines → IsLine kind spill m z e →
    IsStored kind (line_at m (z * 16)) (map_left kind m z) (map_right kind m z) (line_number kind e)
    (z * 16) e (spilled_word kind spill e)
line-stored kind k spill m z e few below line =
    search (arith, reaches-fit kind m z few below, length-line, line-named kind k spill m z e line, line.spilled)
