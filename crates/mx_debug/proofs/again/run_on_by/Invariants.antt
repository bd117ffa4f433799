use Rattle.std.proofs.Common.{◌≡◌, ℕ, ◌+◌, ◌-◌, ◌≤◌}
use Rattle.mx_any.specs.Machines.{meaning}
use Rattle.mx_turns.specs.Running.{IsPace, schedule_of}
use Rattle.mx_debug.specs.Looks.{IsAt}
use Rattle.mx_debug.specs.Session.{Looked}
use Rattle.mx_debug.proofs.again.run_on_by.Given as goal

abbrev pub invariant-turns : goal.invariant-turns
invariant-turns l = record {
  within : l.made ≤ l.turns;
  count : (meaning l.machine).core.turns ≡ (meaning l.fn.machine).core.turns + l.made;
  pace : IsPace (schedule_of l.schedule) (meaning l.machine).core l.pace;
  place : (q : Looked) (k : ℕ) → q.schedule ≡ schedule_of l.schedule → IsAt q k (meaning l.fn.machine)
      → IsAt q (k + l.made) (meaning l.machine);
}

abbrev pub decreases-turns : goal.decreases-turns
decreases-turns l = l.turns - l.made
