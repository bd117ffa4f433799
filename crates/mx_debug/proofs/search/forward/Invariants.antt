use Rattle.std.proofs.Common.{◌≡◌, ◌+◌, ◌-◌, ◌≤◌}
use Rattle.mx_any.specs.Machines.{meaning}
use Rattle.mx_packets.specs.Lines.{Speaks}
use Rattle.mx_turns.specs.Running.{IsPace, schedule_of}
use Rattle.mx_debug.specs.Looks.{IsAt, IsRunBy, asked_by, shows}
use Rattle.mx_debug.specs.Session.{Looked}
use Rattle.mx_debug.specs.Session.{forward as forward_from}
use Rattle.mx_debug.proofs.search.forward.Given as goal

abbrev pub invariant-turns : goal.invariant-turns
invariant-turns g l = record {
  from : l.from ≤ l.made;
  within : l.made ≤ l.from + l.turns;
  most : l.made ≤ l.asking.most;
  turns : (meaning l.machine).core.turns + l.from ≡ (meaning l.fn.machine).core.turns + l.made;
  pace : IsPace (schedule_of l.asking.schedule) (meaning l.machine).core l.pace;
  place : (q : Looked) → IsRunBy q (schedule_of l.asking.schedule) l.asking.most → IsAt q l.from (meaning l.fn.machine)
      → IsAt q l.made (meaning l.machine);
  same : (q : Looked) → IsRunBy q (schedule_of l.asking.schedule) l.asking.most → IsAt q l.from (meaning l.fn.machine) →
      forward_from q (asked_by l.asking) l.turns l.from l.fn.known.broke l.fn.known.faulted
      ≡ forward_from q (asked_by l.asking) (l.from + l.turns - l.made) l.made l.known.broke l.known.faulted;
  said : (q : Looked) → IsRunBy q (schedule_of l.asking.schedule) l.asking.most → IsAt q l.from (meaning l.fn.machine) →
      Speaks g.L.Line.says g.L.Line.room l.fn.line (shows q l.asking.told l.from (l.made - l.from)) l.line;
}

abbrev pub decreases-turns : goal.decreases-turns
decreases-turns g l = l.from + l.turns - l.made
