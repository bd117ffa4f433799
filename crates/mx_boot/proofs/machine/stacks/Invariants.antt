use Rattle.std.proofs.Common.{◌≡◌, take, map}
use Rattle.mx_boot.specs.Starting.{stack_area_of}
use Rattle.mx_boot.proofs.machine.stacks.Given as goal

abbrev pub invariant-modules : goal.invariant-modules
invariant-modules l = l.stacks ≡ map stack_area_of (take l.i l.plan.modules)
