use Rattle.std.proofs.Common.{◌-◌, ◌≤◌, length}
use Rattle.mx_any.specs.Machines.{meaning}
use Rattle.mx_model.specs.State.{module_at}
use Rattle.mx_snapshot.proofs.modules.count_blocks.Given as goal

abbrev pub invariant-live : goal.invariant-live
invariant-live l = l.count ≤ length (module_at (meaning l.machine).core l.domain).blocks

abbrev pub decreases-live : goal.decreases-live
decreases-live l = length (module_at (meaning l.machine).core l.domain).blocks - l.count
