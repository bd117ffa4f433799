use Rattle.std.proofs.Common.{◌≡◌, false, take}
use Rattle.std.specs.List.{list_any}
use Rattle.mx_machine.specs.declared.hart.Hart.{Hart}
use Rattle.mx_machine.specs.Harts.{is_waiting}
use Rattle.mx_machine.proofs.harts.Harts.any_waits.Given as goal

abbrev pub invariant-loop-hart : goal.invariant-loop-hart
invariant-loop-hart l = list_any (λ (x : Hart). is_waiting x.progress) (take l.hart l.self) ≡ false
