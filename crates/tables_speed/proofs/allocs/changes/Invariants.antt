use Rattle.std.proofs.Common.{◌≡◌, ◌≤◌, length}
use Rattle.tables_speed.proofs.allocs.changes.Given as goal

abbrev pub invariant-loop-i : goal.invariant-loop-i
invariant-loop-i g l = record {
  few : l.made ≤ l.i;
  domains : length (g.T.PermTables.maps l.tables) ≡ l.domains;
  size : g.T.PermTables.size l.tables ≡ 16777216;
}
