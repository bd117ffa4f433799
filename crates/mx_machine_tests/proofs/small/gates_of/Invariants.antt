use Rattle.std.specs.List.{AllByRecursion}
use Rattle.mx_model.specs.Valid.{IsGate}
use Rattle.mx_machine_tests.proofs.small.gates_of.Given as goal

abbrev pub invariant-loop-i : goal.invariant-loop-i
invariant-loop-i l = AllByRecursion (IsGate l.modules 16384) l.all
