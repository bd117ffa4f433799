use Rattle.std.proofs.Common.{◌≡◌, ℕ, ◌<◌, ◌≤◌}
use Rattle.tables_replay.specs.Read.{reading}
use Rattle.tables_replay.proofs.sides.Sides.read_all.Given as goal

abbrev pub invariant-loop-domain : goal.invariant-loop-domain
invariant-loop-domain g l = record {
  same : (d : ℕ) → 1 ≤ d → d < l.domain →
      reading g.T.PermTables.kind (g.T.PermTables.maps l.fn.self.tables) d l.word
      ≡ reading g.P.PermTables.kind (g.P.PermTables.maps l.fn.self.plain) d l.word;
  maps : g.T.PermTables.maps l.self.tables ≡ g.T.PermTables.maps l.fn.self.tables;
  plain : g.P.PermTables.maps l.self.plain ≡ g.P.PermTables.maps l.fn.self.plain;
  size : g.T.PermTables.size l.self.tables ≡ g.T.PermTables.size l.fn.self.tables;
}
