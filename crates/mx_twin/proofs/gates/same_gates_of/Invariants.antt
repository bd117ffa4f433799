use Rattle.std.proofs.Common.{◌-◌, length}
use Rattle.mx_any.specs.Machines.{meaning}
use Rattle.mx_laws.specs.Comparison.{same_target}
use Rattle.mx_model.specs.declared.values.Gate.{Gate}
use Rattle.mx_twin.proofs.GateLists.{HavePassed}
use Rattle.mx_twin.proofs.gates.same_gates_of.Given as goal

abbrev pub invariant-gates : goal.invariant-gates
invariant-gates l =
    HavePassed (λ (g : Gate). same_target (meaning l.a).core (meaning l.b).core l.domain g.word) (meaning l.of).core.gates l.i

abbrev pub decreases-gates : goal.decreases-gates
decreases-gates l = length (meaning l.of).core.gates - l.i
