use Rattle.std.proofs.lemmas.Result.{err_from_is_err_and}
use Rattle.mx_report.specs.Lines.{view_lines}
use Rattle.mx_tail.proofs.PassLaws.{passes_next, passes_stop, passes_last}
use Rattle.mx_report.proofs.lines.put_hart.Goals as goal

pub returns-in_err-put_state : goal.returns-in_err-put_state
unfolding view_lines
returns-in_err-put_state g c =
    let p = err_from_is_err_and c.from_residual.result c.from_residual.ensures.1 in
    rw (p.1, p.2) (passes_stop _ _ c.in_err-put_state.ensures)

pub returns : goal.returns
unfolding view_lines
returns g c = passes_next c.in_ok-put_state.ensures (passes_last c.put_registers.ensures)
