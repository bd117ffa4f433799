use Rattle.std.proofs.Common.{arith}
use Rattle.mx_gates.proofs.Indexing.{Indexes-none}
use Rattle.mx_gates.proofs.gates.Gates.new.Goals as goal

pub invariant_of-result : goal.invariant_of-result
invariant_of-result c = rw (c.new.ensures, c.new-2.ensures) ((λ i j d low high. absurd (omega arith)), Indexes-none)
