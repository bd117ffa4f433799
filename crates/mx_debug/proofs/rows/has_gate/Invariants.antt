use Rattle.std.proofs.Common.{◌≡◌, ◌-◌, ◌≤◌, drop, length}
use Rattle.mx_any.specs.Machines.{meaning}
use Rattle.mx_model.specs.Gates.{has_gate}
use Rattle.mx_debug.proofs.rows.has_gate.Given as goal

abbrev pub invariant-gates : goal.invariant-gates
invariant-gates l = record {
  left : has_gate (drop l.i (meaning l.machine).core.gates) l.domain l.word ≡ has_gate (meaning l.machine).core.gates l.domain l.word;
  within : l.i ≤ length (meaning l.machine).core.gates;
}

abbrev pub decreases-gates : goal.decreases-gates
decreases-gates l = length (meaning l.machine).core.gates - l.i
