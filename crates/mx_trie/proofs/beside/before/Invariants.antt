use Rattle.std.proofs.Common.{◌≤◌}
use Rattle.mx_trie.proofs.Scans.{IsAlike}
use Rattle.mx_trie.proofs.beside.before.Given as goal

-- the words from the first one found up to the place have the permission
abbrev pub invariant-loop-begin : goal.invariant-loop-begin
invariant-loop-begin g l = record {
  before : l.begin ≤ l.at;
  alike : IsAlike (g.V.View.map l.view) l.begin l.at l.perm;
}

abbrev pub decreases-loop-begin : goal.decreases-loop-begin
decreases-loop-begin g l = l.begin
