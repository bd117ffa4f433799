use Rattle.std.proofs.Common.{replicate}
use Rattle.mx_asm.proofs.ProgramLaws.{IsLeft}
use Rattle.mx_asm.proofs.emission.add_zeros.Given as goal

abbrev pub invariant-pieces : goal.invariant-pieces
invariant-pieces l = IsLeft l.initial.program (replicate l.count 0) l.program (replicate l.left 0)

abbrev pub decreases-pieces : goal.decreases-pieces
decreases-pieces l = l.left
