use Rattle.std.proofs.Common.{◌≡◌, length, get_or}
use Rattle.mx_machine.proofs.RegLaws.{AgreeFirst}
use Rattle.mx_machine.proofs.hart.regs_of.Given as goal

abbrev pub invariant-loop-r : goal.invariant-loop-r
invariant-loop-r l = record {
  size : length l.regs ≡ 32;
  zero : get_or l.regs 0 0 ≡ 0;
  same : AgreeFirst l.r l.regs l.fn.values;
}
