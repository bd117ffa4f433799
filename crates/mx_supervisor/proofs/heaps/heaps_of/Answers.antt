use Rattle.std.proofs.Common.{None}
use Rattle.mx_supervisor.proofs.Told.{first-past, first-there}
use Rattle.mx_supervisor.proofs.heaps.heaps_of.Goals.{in-Some, in-None}
use Rattle.mx_supervisor.proofs.heaps.heaps_of.Goals as goal

pub loop-i-preserved : goal.loop-i-preserved
loop-i-preserved c =
    elim c.match-get.branch [
      | in-Some w ↦ first-there c.heaps.inside.slots.items c.deref.result.now c.args.heaps.now c.loop-i.i w.in-Some.slot.now c.heaps.view_is
          c.deref.ensures.0
          c.loop-i.invariant w.in-Some.ensures.lookup.3.0 (w.in-Some.ensures.lookup.3.1 None) w.told_in.ensures
      | in-None w ↦ first-past c.heaps.inside.slots.items c.deref.result.now c.args.heaps.now c.loop-i.i c.heaps.view_is c.deref.ensures.0
          c.loop-i.invariant
          w.in-None.ensures.lookup.3
    ]
