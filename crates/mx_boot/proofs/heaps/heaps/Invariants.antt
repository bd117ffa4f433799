use Rattle.std.proofs.Common.{◌≡◌, take, map}
use Rattle.mx_boot.specs.Joined.{heap_state}
use Rattle.mx_boot.proofs.heaps.heaps.Given as goal

abbrev pub invariant-modules : goal.invariant-modules
invariant-modules l = l.heaps ≡ map heap_state (take l.i l.plan.modules)
