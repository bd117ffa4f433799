use Rattle.std.proofs.Common.{◌≡◌, ◌≤◌, length}
use Rattle.tables_speed.proofs.calls.count_made.Given as goal

abbrev pub invariant-loop-i : goal.invariant-loop-i
invariant-loop-i g l = record {
  few : l.made ≤ l.i;
  one : length (g.T.PermTables.maps l.tables) ≡ 1;
  size : g.T.PermTables.size l.tables ≡ g.T.PermTables.size l.initial.tables;
}
