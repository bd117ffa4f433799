use Rattle.mx_supervisor.proofs.Told.{AreToldFirst}
use Rattle.mx_supervisor.proofs.heaps.heaps_of.Given as goal

abbrev pub invariant-loop-i : goal.invariant-loop-i
invariant-loop-i l = AreToldFirst l.i l.heaps
