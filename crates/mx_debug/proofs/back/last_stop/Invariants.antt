use Rattle.std.proofs.Common.{◌≡◌, ◌-◌, ◌≤◌, IfSome}
use Rattle.mx_any.specs.Machines.{meaning}
use Rattle.mx_turns.specs.Running.{IsPace, schedule_of}
use Rattle.mx_debug.specs.Back.{sought_by}
use Rattle.mx_debug.specs.Back.{last_stop as last_stop_from}
use Rattle.mx_debug.specs.Looks.{IsAt, IsRunBy}
use Rattle.mx_debug.specs.Session.{Looked}
use Rattle.mx_debug.proofs.back.last_stop.Given as goal

abbrev pub invariant-turns : goal.invariant-turns
invariant-turns l = record {
  from : l.from ≤ l.made;
  within : l.made ≤ l.before;
  turns : (meaning l.machine).core.turns ≤ l.made;
  pace : IsPace (schedule_of l.seeking.schedule) (meaning l.machine).core l.pace;
  place : (q : Looked) → IsRunBy q (schedule_of l.seeking.schedule) l.seeking.most → IsAt q l.from (meaning l.fn.machine)
      → IsAt q l.made (meaning l.machine);
  last : (q : Looked) → IsRunBy q (schedule_of l.seeking.schedule) l.seeking.most → IsAt q l.from (meaning l.fn.machine) →
      l.last ≡ last_stop_from q (sought_by l.seeking) l.from (l.made - l.from);
  below : IfSome l.last (λ found. found.0 ≤ l.made);
}

abbrev pub decreases-turns : goal.decreases-turns
decreases-turns l = l.before - l.made
