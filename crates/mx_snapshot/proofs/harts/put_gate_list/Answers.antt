use Rattle.std.proofs.Common.{◌<◌, ◌≤◌, ap, arith, length, sym}
use Rattle.std.proofs.lemmas.Option.{get_or_from_slice_get, slice_get_within}
use Rattle.std.proofs.lemmas.Result.{err_from_is_err_and}
use Rattle.mx_any.specs.Machines.{meaning}
use Rattle.mx_tail.proofs.PassLaws.{passes_same, coming_all, coming_item, coming_item_stop, coming_items}
use Rattle.mx_snapshot.specs.Spelling.{gate_bytes}
use Rattle.mx_snapshot.proofs.PlaceLaws.{none_at}
use Rattle.mx_snapshot.proofs.harts.put_gate_list.Goals as goal

pub gates-init : goal.gates-init
gates-init g c = record { within = omega arith; coming = coming_all _ _ _ }

pub returns-in_err-put_gate : goal.returns-in_err-put_gate
returns-in_err-put_gate g c =
    let xs = (meaning c.args.machine.now).core.gates in
    let at = sym c.in-Some.ensures in
    let p = err_from_is_err_and c.from_residual.result c.from_residual.ensures.1 in
    rw (p.1, p.2)
    (coming_item_stop gate_bytes xs c.gates.i (record { domain = 0; word = 0; target = 0 }) (slice_get_within xs c.gates.i _ at)
    c.gates.invariant.coming
    (passes_same (ap gate_bytes (sym (get_or_from_slice_get xs c.gates.i _ (record { domain = 0; word = 0; target = 0 }) at)))
    c.in_err-put_gate.ensures))

pub overflow_add-i : goal.overflow_add-i
overflow_add-i g c =
    let xs = (meaning c.args.machine.now).core.gates in
    let within = slice_get_within xs c.gates.i _ (sym c.in-Some.ensures) in
    let few : length xs ≤ 256 = c.any_machine_is_valid.ensures.valid.few_gates in
    omega (arith, within, few)

pub gates-smaller : goal.gates-smaller
gates-smaller g c =
    let xs = (meaning c.args.machine.now).core.gates in
    let within = slice_get_within xs c.gates.i _ (sym c.in-Some.ensures) in
    omega (arith, within)

pub gates-preserved : goal.gates-preserved
gates-preserved g c =
    let xs = (meaning c.args.machine.now).core.gates in
    let at = sym c.in-Some.ensures in
    let within : c.gates.i < length xs = slice_get_within xs c.gates.i _ at in
    record {
      within = omega arith;
      coming = coming_item gate_bytes xs c.gates.i (record { domain = 0; word = 0; target = 0 }) within c.gates.invariant.coming
          (passes_same (ap gate_bytes (sym (get_or_from_slice_get xs c.gates.i _ (record { domain = 0; word = 0; target = 0 }) at)))
          c.in_ok-put_gate.ensures);
    }

pub returns : goal.returns
returns g c =
    let xs = (meaning c.args.machine.now).core.gates in
    coming_items gate_bytes xs c.gates.i (none_at xs c.gates.i (sym c.in_default.ensures)) c.gates.invariant.coming
