use Rattle.mx_machine.specs.Smalls.{IsSmallStart}
use Rattle.mx_machine.proofs.SmallLaws.{AllFirst}
use Rattle.mx_machine.proofs.starts.starts_of.Given as goal

abbrev pub invariant-loop-hart : goal.invariant-loop-hart
invariant-loop-hart l = AllFirst IsSmallStart l.hart l.starts
