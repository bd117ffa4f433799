use Rattle.mx_supervisor.specs.Parts.{parts_of}
use Rattle.mx_call_tests.specs.Calls.{IsAtRest}
use Rattle.parts_speed.proofs.calls.blocks_ended.Given as goal

abbrev pub invariant-loop : goal.invariant-loop
invariant-loop g l = IsAtRest 0 1 (parts_of g.T.PermTables l.machine)
