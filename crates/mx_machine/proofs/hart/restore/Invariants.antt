use Rattle.std.proofs.Common.{◌≡◌}
use Rattle.mx_machine.proofs.RegLaws.{back_first}
use Rattle.mx_machine.proofs.hart.restore.Given as goal

abbrev pub invariant-loop-i : goal.invariant-loop-i
invariant-loop-i l = l.regs ≡ back_first l.i l.fn.regs l.fn.kept
