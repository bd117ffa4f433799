use Rattle.std.proofs.Common.{◌+◌, ◌*◌, ◌≤◌, List, length}
use Rattle.mx_words.specs.declared.perm.Perm.{Perm}
use Rattle.mx_table.specs.Tables.{most_words}
use Rattle.mx_trie.specs.Shown.{IsLine}
use Rattle.mx_trie.proofs.LinePerms.{IsLineTold, IsAlong}
use Rattle.mx_trie.proofs.entry.perms_in.Given as goal

-- the first permissions are told, and the span is the last one that was read
abbrev pub invariant-loop-place : goal.invariant-loop-place
invariant-loop-place g l =
    (m : List Perm) → length m ≤ most_words → IsLine g.L.LeafForm.kind l.spill m l.line l.entry →
    IsLineTold m l.line l.place l.perms × IsAlong m (l.line * 16 + l.place) l.span
