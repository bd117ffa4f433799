use Rattle.mx_machine.specs.Smalls.{IsSmallState}
use Rattle.mx_machine.proofs.SmallLaws.{AllFirst}
use Rattle.mx_machine.proofs.starts.states_of.Given as goal

abbrev pub invariant-loop-hart : goal.invariant-loop-hart
invariant-loop-hart l = AllFirst IsSmallState l.hart l.states
