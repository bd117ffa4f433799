use Rattle.std.proofs.Common.{◌<◌, ◌≤◌, ap, arith, length, sym}
use Rattle.std.proofs.lemmas.Option.{get_or_from_slice_get, slice_get_within}
use Rattle.std.proofs.lemmas.Result.{err_from_is_err_and}
use Rattle.mx_any.specs.Machines.{meaning}
use Rattle.mx_model.specs.State.{module_at}
use Rattle.mx_model.proofs.ValidParts.{home-at}
use Rattle.mx_tail.proofs.PassLaws.{passes_same, coming_all, coming_item, coming_item_stop, coming_items}
use Rattle.mx_snapshot.specs.Spelling.{block_bytes}
use Rattle.mx_snapshot.proofs.PlaceLaws.{none_at}
use Rattle.mx_snapshot.proofs.modules.put_block_list.Goals as goal

pub live-init : goal.live-init
live-init g c = record { within = omega arith; coming = coming_all _ _ _ }

pub returns-in_err-put_block : goal.returns-in_err-put_block
returns-in_err-put_block g c =
    let xs = (module_at (meaning c.args.machine.now).core c.args.domain).blocks in
    let at = sym c.in-Some.ensures in
    let p = err_from_is_err_and c.from_residual.result c.from_residual.ensures.1 in
    rw (p.1, p.2)
    (coming_item_stop block_bytes xs c.live.i (record { first = 0; count = 0 }) (slice_get_within xs c.live.i _ at) c.live.invariant.coming
    (passes_same (ap block_bytes (sym (get_or_from_slice_get xs c.live.i _ (record { first = 0; count = 0 }) at)))
    c.in_err-put_block.ensures))

pub overflow_add-i : goal.overflow_add-i
overflow_add-i g c =
    let xs = (module_at (meaning c.args.machine.now).core c.args.domain).blocks in
    let within = slice_get_within xs c.live.i _ (sym c.in-Some.ensures) in
    let few : length xs ≤ 1024 = (home-at (meaning c.args.machine.now).core c.args.domain c.any_machine_is_valid.ensures.valid).few_blocks
    in
    omega (arith, within, few)

pub live-smaller : goal.live-smaller
live-smaller g c =
    let xs = (module_at (meaning c.args.machine.now).core c.args.domain).blocks in
    let within = slice_get_within xs c.live.i _ (sym c.in-Some.ensures) in
    omega (arith, within)

pub live-preserved : goal.live-preserved
live-preserved g c =
    let xs = (module_at (meaning c.args.machine.now).core c.args.domain).blocks in
    let at = sym c.in-Some.ensures in
    let within : c.live.i < length xs = slice_get_within xs c.live.i _ at in
    record {
      within = omega arith;
      coming = coming_item block_bytes xs c.live.i (record { first = 0; count = 0 }) within c.live.invariant.coming
          (passes_same (ap block_bytes (sym (get_or_from_slice_get xs c.live.i _ (record { first = 0; count = 0 }) at)))
          c.in_ok-put_block.ensures);
    }

pub returns : goal.returns
returns g c =
    let xs = (module_at (meaning c.args.machine.now).core c.args.domain).blocks in
    coming_items block_bytes xs c.live.i (none_at xs c.live.i (sym c.in_default.ensures)) c.live.invariant.coming
