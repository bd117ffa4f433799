use Rattle.mx_supervisor.specs.Parts.{parts_of}
use Rattle.mx_call_tests.specs.Calls.{IsAtRest}
use Rattle.parts_speed.proofs.calls.grants_done.Given as goal

abbrev pub invariant-loop-i : goal.invariant-loop-i
invariant-loop-i g l = IsAtRest 0 1 (parts_of g.T.PermTables l.machine)
