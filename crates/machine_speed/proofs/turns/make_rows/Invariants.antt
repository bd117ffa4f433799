use Rattle.std.proofs.Common.{◌≡◌, ◌+◌, ◌-◌, ◌≤◌}
use Rattle.machine_speed.proofs.turns.make_rows.Given as goal

abbrev pub invariant-rows : goal.invariant-rows
invariant-rows l = record {
  within : l.made ≤ l.turns;
  turns : l.machine.core.turns ≡ l.fn.machine.core.turns + l.made;
}

abbrev pub decreases-rows : goal.decreases-rows
decreases-rows l = l.turns - l.made
