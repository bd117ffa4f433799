use Rattle.std.proofs.lemmas.Result.{err_from_is_err_and}
use Rattle.mx_report.specs.Lines.{registers_line}
use Rattle.mx_tail.proofs.PassLaws.{passes_next, passes_stop}
use Rattle.mx_report.proofs.lines.put_registers.Goals as goal

pub returns-in_err-put_pieces : goal.returns-in_err-put_pieces
unfolding registers_line
returns-in_err-put_pieces g c =
    let p = err_from_is_err_and c.from_residual.result c.from_residual.ensures.1 in
    rw (p.1, p.2) (passes_stop _ _ c.in_err-put_pieces.ensures.passes)

pub returns-in_err-put_values : goal.returns-in_err-put_values
unfolding registers_line
returns-in_err-put_values g c =
    let p = err_from_is_err_and c.from_residual-in_err-put_values.result c.from_residual-in_err-put_values.ensures.1 in
    rw (p.1, p.2) (passes_next c.in_ok-put_pieces.ensures.passes (passes_stop _ _ c.in_err-put_values.ensures))

pub returns : goal.returns
unfolding registers_line
returns g c = passes_next c.in_ok-put_pieces.ensures.passes (passes_next c.in_ok-put_values.ensures c.put_pieces-2.ensures.passes)
