use Rattle.std.proofs.Common.{◌-◌, ◌≤◌}
use Rattle.mx_trie.proofs.Scans.{IsAlike}
use Rattle.mx_trie.proofs.beside.behind.Given as goal

-- the words from the place up to the last one found have the permission
abbrev pub invariant-loop-end : goal.invariant-loop-end
invariant-loop-end g l = record {
  behind : l.at ≤ l.end;
  alike : IsAlike (g.V.View.map l.view) l.at l.end l.perm;
}

abbrev pub decreases-loop-end : goal.decreases-loop-end
decreases-loop-end g l = l.words - l.end
