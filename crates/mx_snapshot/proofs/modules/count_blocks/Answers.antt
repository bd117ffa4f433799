use Rattle.std.proofs.Common.{◌≤◌, arith, length, sym, ◌∙◌}
use Rattle.mx_any.specs.Machines.{meaning}
use Rattle.mx_heap.specs.HeapState.{area_of}
use Rattle.mx_model.specs.State.{module_at}
use Rattle.mx_model.proofs.ValidParts.{home-at}
use Rattle.mx_snapshot.proofs.PlaceLaws.{some_within, some_behind}
use Rattle.mx_snapshot.proofs.modules.count_blocks.Goals as goal

pub overflow_add-count : goal.overflow_add-count
overflow_add-count c =
    let xs = (module_at (meaning c.args.machine.now).core c.args.domain).blocks in
    let within = some_within area_of c.block.result xs c.live.count c.block.ensures (sym c.is_some.ensures ∙ c.live-test.true) in
    let few : length xs ≤ 1024 = (home-at (meaning c.args.machine.now).core c.args.domain c.any_machine_is_valid.ensures.valid).few_blocks
    in
    omega (arith, within, few)

pub live-smaller : goal.live-smaller
live-smaller c =
    let within = some_within area_of c.block.result (module_at (meaning c.args.machine.now).core c.args.domain).blocks c.live.count
    c.block.ensures (sym c.is_some.ensures ∙ c.live-test.true) in
    omega (arith, within)

pub live-preserved : goal.live-preserved
live-preserved c =
    let within = some_within area_of c.block.result (module_at (meaning c.args.machine.now).core c.args.domain).blocks c.live.count
    c.block.ensures (sym c.is_some.ensures ∙ c.live-test.true) in
    omega (arith, within)

pub returns : goal.returns
returns c =
    let behind = some_behind area_of c.block.result (module_at (meaning c.args.machine.now).core c.args.domain).blocks c.live.count
    c.block.ensures (sym c.is_some.ensures ∙ c.live-test.false) in
    let within = c.live.invariant in
    omega (arith, behind, within)
