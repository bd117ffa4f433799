use Rattle.std.proofs.Common.{◌-◌, ◌≤◌, drop, flat_map, length}
use Rattle.mx_any.specs.Machines.{meaning}
use Rattle.mx_model.specs.State.{module_at}
use Rattle.mx_tail.proofs.PassLaws.{Coming}
use Rattle.mx_snapshot.specs.Spelling.{block_bytes}
use Rattle.mx_snapshot.proofs.modules.put_block_list.Given as goal

abbrev pub invariant-live : goal.invariant-live
invariant-live g l =
    let xs = (module_at (meaning l.machine).core l.domain).blocks in
    record {
      within : l.i ≤ length xs;
      coming : Coming l.initial.tail (g.R.Sink.state l.initial.sink) (flat_map block_bytes xs) l.tail (g.R.Sink.state l.sink)
          (flat_map block_bytes (drop l.i xs));
    }

abbrev pub decreases-live : goal.decreases-live
decreases-live g l = length (module_at (meaning l.machine).core l.domain).blocks - l.i
