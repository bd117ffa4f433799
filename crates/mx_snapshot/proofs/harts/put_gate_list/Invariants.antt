use Rattle.std.proofs.Common.{◌-◌, ◌≤◌, drop, flat_map, length}
use Rattle.mx_any.specs.Machines.{meaning}
use Rattle.mx_tail.proofs.PassLaws.{Coming}
use Rattle.mx_snapshot.specs.Spelling.{gate_bytes}
use Rattle.mx_snapshot.proofs.harts.put_gate_list.Given as goal

abbrev pub invariant-gates : goal.invariant-gates
invariant-gates g l =
    let xs = (meaning l.machine).core.gates in
    record {
      within : l.i ≤ length xs;
      coming : Coming l.initial.tail (g.R.Sink.state l.initial.sink) (flat_map gate_bytes xs) l.tail (g.R.Sink.state l.sink)
          (flat_map gate_bytes (drop l.i xs));
    }

abbrev pub decreases-gates : goal.decreases-gates
decreases-gates g l = length (meaning l.machine).core.gates - l.i
