use Rattle.std.proofs.Common.{◌≡◌}
use Rattle.tables_replay.proofs.places.read_round.Given as goal

abbrev pub invariant-loop-distance : goal.invariant-loop-distance
invariant-loop-distance g l = record {
  maps : g.T.PermTables.maps l.sides.tables ≡ g.T.PermTables.maps l.fn.sides.tables;
  plain : g.P.PermTables.maps l.sides.plain ≡ g.P.PermTables.maps l.fn.sides.plain;
  size : g.T.PermTables.size l.sides.tables ≡ g.T.PermTables.size l.fn.sides.tables;
}
