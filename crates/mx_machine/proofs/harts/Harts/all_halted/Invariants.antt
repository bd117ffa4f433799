use Rattle.std.proofs.Common.{◌≡◌, true, take}
use Rattle.std.specs.List.{list_all}
use Rattle.mx_machine.specs.declared.hart.Hart.{Hart}
use Rattle.mx_machine.specs.Harts.{is_halted}
use Rattle.mx_machine.proofs.harts.Harts.all_halted.Given as goal

abbrev pub invariant-loop-hart : goal.invariant-loop-hart
invariant-loop-hart l = list_all (λ (x : Hart). is_halted x.progress) (take l.hart l.self) ≡ true
