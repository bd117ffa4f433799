use Rattle.std.proofs.Common.{◌≡◌, take}
use Rattle.mx_machine.proofs.starts.Stacks.copy.Given as goal

abbrev pub invariant-loop-area : goal.invariant-loop-area
invariant-loop-area l = l.stacks ≡ take l.area-index l.self
