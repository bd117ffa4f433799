use Rattle.mx_supervisor.specs.Parts.{parts_of}
use Rattle.mx_call_tests.specs.Calls.{IsReady}
use Rattle.mx_call_tests.proofs.steps.splits.Given as goal

abbrev pub invariant-loop-i : goal.invariant-loop-i
invariant-loop-i g l = IsReady (parts_of g.T.PermTables l.machine)
