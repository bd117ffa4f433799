use Rattle.std.proofs.lemmas.Result.{err_from_is_err_and}
use Rattle.std.proofs.Common.{sym}
use Rattle.std.proofs.lemmas.List.Folds.{flat_map-map}
use Rattle.mx_any.specs.Machines.{meaning}
use Rattle.mx_snapshot.specs.Spelling.{front_bytes, hart_bytes, module_bytes}
use Rattle.mx_snapshot.specs.Stored.{named_module, stored_hart}
use Rattle.mx_tail.proofs.PassLaws.{passes_next, passes_stop, passes_last, passes_same}
use Rattle.mx_snapshot.proofs.writing.put_fields.Goals as goal

pub returns-in_err-put_head : goal.returns-in_err-put_head
unfolding front_bytes
returns-in_err-put_head g c =
    let p = err_from_is_err_and c.from_residual.result c.from_residual.ensures.1 in
    rw (p.1, p.2) (passes_stop _ _ c.in_err-put_head.ensures)

pub returns-in_err-put_modules : goal.returns-in_err-put_modules
unfolding front_bytes
returns-in_err-put_modules g c =
    let p = err_from_is_err_and c.from_residual-in_err-put_modules.result c.from_residual-in_err-put_modules.ensures.1 in
    rw (p.1, p.2) (passes_next c.in_ok-put_head.ensures (passes_stop _ _
    (passes_same (sym (flat_map-map module_bytes (named_module c.args.plan.now.names (meaning c.args.machine.now)) _))
    c.in_err-put_modules.ensures)))

pub returns-in_err-put_owners : goal.returns-in_err-put_owners
unfolding front_bytes
returns-in_err-put_owners g c =
    let p = err_from_is_err_and c.from_residual-in_err-put_owners.result c.from_residual-in_err-put_owners.ensures.1 in
    rw (p.1, p.2) (passes_next c.in_ok-put_head.ensures (passes_next
    (passes_same (sym (flat_map-map module_bytes (named_module c.args.plan.now.names (meaning c.args.machine.now)) _))
    c.in_ok-put_modules.ensures) (passes_stop _ _ c.in_err-put_owners.ensures)))

pub returns-in_err-put_gates : goal.returns-in_err-put_gates
unfolding front_bytes
returns-in_err-put_gates g c =
    let p = err_from_is_err_and c.from_residual-in_err-put_gates.result c.from_residual-in_err-put_gates.ensures.1 in
    rw (p.1, p.2) (passes_next c.in_ok-put_head.ensures (passes_next
    (passes_same (sym (flat_map-map module_bytes (named_module c.args.plan.now.names (meaning c.args.machine.now)) _))
    c.in_ok-put_modules.ensures) (passes_next c.in_ok-put_owners.ensures (passes_stop _ _ c.in_err-put_gates.ensures))))

pub returns : goal.returns
unfolding front_bytes
returns g c = passes_next c.in_ok-put_head.ensures (passes_next
    (passes_same (sym (flat_map-map module_bytes (named_module c.args.plan.now.names (meaning c.args.machine.now)) _))
    c.in_ok-put_modules.ensures) (passes_next c.in_ok-put_owners.ensures
    (passes_next c.in_ok-put_gates.ensures (passes_last (passes_same (sym (flat_map-map hart_bytes stored_hart _)) c.put_harts.ensures)))))
