use Rattle.std.proofs.Common.{◌≡◌, take}
use Rattle.mx_model.specs.Gates.{nearest}
use Rattle.mx_gates.proofs.cross_stack.CrossStack.nearest.Given as goal

abbrev pub invariant-loop-i : goal.invariant-loop-i
invariant-loop-i l = nearest (take l.i l.frames) l.domain ≡ nearest l.frames l.domain
