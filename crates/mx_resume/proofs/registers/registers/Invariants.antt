use Rattle.std.proofs.Common.{◌≡◌, ℕ, ◌<◌, true, List, length, take, get_or}
use Rattle.mx_words.specs.Announced.{is_announced}
use Rattle.mx_machine.specs.declared.views.HartStatus.TheVariants.{Waiting}
use Rattle.mx_snapshot.specs.Reader.{number, such}
use Rattle.mx_snapshot.specs.Rules.{is_register}
use Rattle.mx_resume.proofs.Lists.{Left}
use Rattle.mx_resume.proofs.registers.registers.Given as goal

abbrev pub invariant-registers : goal.invariant-registers
invariant-registers l = record {
  long : length l.regs ≡ 32;
  left : Left (λ (others : List ℕ). such (is_register l.status (length others)) number) l.bytes 32 l.fn.at l.i (take l.i l.regs) l.at;
  call : 17 < l.i → l.status ≡ Waiting → is_announced (get_or l.regs 17 0) ≡ true;
}
