use Rattle.std.proofs.Common.{arith}
use Rattle.mx_memory.proofs.ram.are_small.Goals as goal

pub returns : goal.returns
returns c = λ i. omega (arith, c.type_inv.bytes i)
