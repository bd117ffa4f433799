use Rattle.std.proofs.Common.{◌≤◌}
use Rattle.mx_segments.specs.Kept.{maps_in}
use Rattle.mx_table.specs.Tables.{IsDomain}
use Rattle.mx_check.specs.Conditions.{MayLook}
use Rattle.check_speed.proofs.hits.hits.Given as goal

abbrev pub invariant-loop-round : goal.invariant-loop-round
invariant-loop-round l = record {
  few : l.allowed ≤ l.round;
  may : MayLook 0 1 l.checker.harts;
  domain : IsDomain (maps_in l.checker.tables.words l.checker.tables.leaf l.checker.tables.chains.lists) 1;
}
