use Rattle.mx_machine.specs.Smalls.{IsSmallFrame}
use Rattle.mx_machine.proofs.SmallLaws.{AllFirst}
use Rattle.mx_machine.proofs.starts.frames_of.Given as goal

abbrev pub invariant-loop-i : goal.invariant-loop-i
invariant-loop-i l = AllFirst IsSmallFrame l.i l.frames
