use Rattle.std.proofs.Common.{◌<◌, ◌≤◌, [], ap, arith, length, sym}
use Rattle.std.proofs.lemmas.Option.{get_or_from_slice_get, slice_get_within}
use Rattle.std.proofs.lemmas.Result.{err_from_is_err_and}
use Rattle.mx_any.specs.Machines.{meaning}
use Rattle.mx_model.specs.State.{hart_at}
use Rattle.mx_tail.proofs.PassLaws.{passes_same, coming_all, coming_item, coming_item_stop, coming_items}
use Rattle.mx_snapshot.specs.Spelling.{frame_bytes}
use Rattle.mx_snapshot.proofs.PlaceLaws.{none_at}
use Rattle.mx_snapshot.proofs.harts.put_frame_list.Goals as goal

pub frames-init : goal.frames-init
frames-init g c = record { within = omega arith; coming = coming_all _ _ _ }

pub returns-in_err-put_frame : goal.returns-in_err-put_frame
returns-in_err-put_frame g c =
    let xs = (hart_at (meaning c.args.machine.now).core c.args.hart).frames in
    let at = sym c.in-Some.ensures in
    let p = err_from_is_err_and c.from_residual.result c.from_residual.ensures.1 in
    rw (p.1, p.2)
    (coming_item_stop frame_bytes xs c.frames.i (record { back = 0; caller = 0; kept = [] }) (slice_get_within xs c.frames.i _ at)
    c.frames.invariant.coming
    (passes_same (ap frame_bytes (sym (get_or_from_slice_get xs c.frames.i _ (record { back = 0; caller = 0; kept = [] }) at)))
    c.in_err-put_frame.ensures))

pub overflow_add-i : goal.overflow_add-i
overflow_add-i g c =
    let xs = (hart_at (meaning c.args.machine.now).core c.args.hart).frames in
    let within = slice_get_within xs c.frames.i _ (sym c.in-Some.ensures) in
    let few : length xs ≤ 64 = (c.any_machine_is_valid.ensures.valid.harts c.args.hart c.requires).few_frames in
    omega (arith, within, few)

pub frames-smaller : goal.frames-smaller
frames-smaller g c =
    let xs = (hart_at (meaning c.args.machine.now).core c.args.hart).frames in
    let within = slice_get_within xs c.frames.i _ (sym c.in-Some.ensures) in
    omega (arith, within)

pub frames-preserved : goal.frames-preserved
frames-preserved g c =
    let xs = (hart_at (meaning c.args.machine.now).core c.args.hart).frames in
    let at = sym c.in-Some.ensures in
    let within : c.frames.i < length xs = slice_get_within xs c.frames.i _ at in
    record {
      within = omega arith;
      coming = coming_item frame_bytes xs c.frames.i (record { back = 0; caller = 0; kept = [] }) within c.frames.invariant.coming
          (passes_same (ap frame_bytes (sym (get_or_from_slice_get xs c.frames.i _ (record { back = 0; caller = 0; kept = [] }) at)))
          c.in_ok-put_frame.ensures);
    }

pub returns : goal.returns
returns g c =
    let xs = (hart_at (meaning c.args.machine.now).core c.args.hart).frames in
    coming_items frame_bytes xs c.frames.i (none_at xs c.frames.i (sym c.in_default.ensures)) c.frames.invariant.coming
