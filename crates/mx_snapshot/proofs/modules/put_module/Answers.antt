use Rattle.std.proofs.lemmas.Result.{err_from_is_err_and}
use Rattle.mx_snapshot.specs.Spelling.{module_bytes}
use Rattle.mx_tail.proofs.PassLaws.{passes_next, passes_stop, passes_last}
use Rattle.mx_snapshot.proofs.modules.put_module.Goals as goal

pub returns-in_err-put_name : goal.returns-in_err-put_name
unfolding module_bytes
returns-in_err-put_name g c =
    let p = err_from_is_err_and c.from_residual.result c.from_residual.ensures.1 in
    rw (p.1, p.2) (passes_stop _ _ c.in_err-put_name.ensures)

pub returns-in_err-put_areas : goal.returns-in_err-put_areas
unfolding module_bytes
returns-in_err-put_areas g c =
    let p = err_from_is_err_and c.from_residual-in_err-put_areas.result c.from_residual-in_err-put_areas.ensures.1 in
    rw (p.1, p.2) (passes_next c.in_ok-put_name.ensures (passes_stop _ _ c.in_err-put_areas.ensures))

pub returns-in_err-put_flags : goal.returns-in_err-put_flags
unfolding module_bytes
returns-in_err-put_flags g c =
    let p = err_from_is_err_and c.from_residual-in_err-put_flags.result c.from_residual-in_err-put_flags.ensures.1 in
    rw (p.1, p.2) (passes_next c.in_ok-put_name.ensures (passes_next c.in_ok-put_areas.ensures
    (passes_stop _ _ c.in_err-put_flags.ensures)))

pub returns-in_err-put_blocks : goal.returns-in_err-put_blocks
unfolding module_bytes
returns-in_err-put_blocks g c =
    let p = err_from_is_err_and c.from_residual-in_err-put_blocks.result c.from_residual-in_err-put_blocks.ensures.1 in
    rw (p.1, p.2) (passes_next c.in_ok-put_name.ensures (passes_next c.in_ok-put_areas.ensures
    (passes_next c.in_ok-put_flags.ensures (passes_stop _ _ c.in_err-put_blocks.ensures))))

pub returns : goal.returns
unfolding module_bytes
returns g c = passes_next c.in_ok-put_name.ensures (passes_next c.in_ok-put_areas.ensures
    (passes_next c.in_ok-put_flags.ensures (passes_next c.in_ok-put_blocks.ensures (passes_last c.put_map.ensures))))
