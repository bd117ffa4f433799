use Rattle.std.proofs.Common.{◌+◌, ◌*◌}
use Rattle.mx_trie.proofs.LinePerms.{IsLineTold, IsAlong}
use Rattle.mx_trie.proofs.scan.line_perms.Given as goal

-- the first permissions are told, and the span is the last one that was read
abbrev pub invariant-loop-place : goal.invariant-loop-place
invariant-loop-place g l = record {
  told : IsLineTold (g.V.View.map l.view) l.line l.place l.perms;
  along : IsAlong (g.V.View.map l.view) (l.line * 16 + l.place) l.span;
}
