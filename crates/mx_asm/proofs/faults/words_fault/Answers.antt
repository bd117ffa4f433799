use Rattle.std.proofs.Common.{arith}
use Rattle.mx_asm.proofs.FaultLaws.{fault_steps}
use Rattle.mx_asm.proofs.faults.words_fault.Goals as goal

pub returns-then-is_empty : goal.returns-then-is_empty
returns-then-is_empty c = grind (arith, fault_steps)

pub returns : goal.returns
returns c = grind (arith, fault_steps)
