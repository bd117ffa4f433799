use Rattle.std.proofs.Common.{◌∙◌, [], ap}
use Rattle.mx_supervisor.specs.Heaps.{told_heap}
use Rattle.mx_boot.specs.Joined.{heap_state}
use Rattle.mx_boot.proofs.Joining.{heap-small, heap-told}
use Rattle.mx_boot.proofs.Rows.{grown_by_one}
use Rattle.mx_boot.proofs.heaps.heaps.Goals as goal

pub heap-requires : goal.heap-requires
heap-requires c = heap-small c.args.plan.now c.args.images.now c.plan_is_in_range.ensures c.requires c.modules.i c.module.result.now
    c.module.ensures.value

pub modules-preserved : goal.modules-preserved
modules-preserved c =
    let m = c.module.result.now in
    grown_by_one heap_state c.args.plan.now.modules c.modules.i m [] c.modules.heaps c.push.new.self (told_heap c.in_ok-heap.field-0)
    c.module.ensures.value c.modules.invariant
    (ap told_heap c.in_ok-heap.ensures ∙ heap-told c.args.plan.now c.args.images.now c.plan_is_in_range.ensures c.requires c.modules.i m
    c.module.ensures.value) c.push.ensures
