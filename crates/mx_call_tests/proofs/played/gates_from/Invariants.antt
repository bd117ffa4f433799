use Rattle.std.specs.List.{AllByRecursion}
use Rattle.mx_model.specs.Valid.{IsGate}
use Rattle.mx_call_tests.proofs.played.gates_from.Given as goal

abbrev pub invariant-loop-i : goal.invariant-loop-i
invariant-loop-i l = AllByRecursion (IsGate 2 16384) l.gates
