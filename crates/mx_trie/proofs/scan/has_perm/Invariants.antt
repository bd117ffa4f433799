use Rattle.std.proofs.Common.{◌-◌, ◌≤◌}
use Rattle.mx_trie.proofs.Scans.{IsAlike}
use Rattle.mx_trie.proofs.scan.has_perm.Given as goal

-- the words so far have the permission
abbrev pub invariant-loop-at : goal.invariant-loop-at
invariant-loop-at g l = record {
  from : l.first ≤ l.at;
  alike : IsAlike (g.V.View.map l.view) l.first l.at l.perm;
}

abbrev pub decreases-loop-at : goal.decreases-loop-at
decreases-loop-at g l = l.end - l.at
