use Rattle.std.proofs.Common.{◌≡◌, ◌+◌, ◌≤◌}
use Rattle.tables_replay.proofs.replay.Replay.run_on.Given as goal

abbrev pub invariant-loop-after : goal.invariant-loop-after
invariant-loop-after g l = record {
  counted : l.tally.made + l.tally.refused ≡ l.after;
  full : l.tally.full ≤ l.tally.made + l.tally.refused;
}
