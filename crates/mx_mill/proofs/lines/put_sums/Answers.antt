use Rattle.std.proofs.lemmas.Result.{err_from_is_err_and}
use Rattle.mx_tail.proofs.PassLaws.{passes_last, passes_next, passes_stop}
use Rattle.mx_mill.specs.Lines.{sums_line}
use Rattle.mx_mill.proofs.lines.put_sums.Goals as goal

pub returns-in_err-put_count : goal.returns-in_err-put_count
unfolding sums_line
returns-in_err-put_count g c =
    let p = err_from_is_err_and c.from_residual.result c.from_residual.ensures.1 in
    rw (p.1, p.2) (passes_stop _ _ c.in_err-put_count.ensures)

pub returns-in_err-put_count-2 : goal.returns-in_err-put_count-2
unfolding sums_line
returns-in_err-put_count-2 g c =
    let p = err_from_is_err_and c.from_residual-in_err-put_count-2.result c.from_residual-in_err-put_count-2.ensures.1 in
    rw (p.1, p.2) (passes_next c.in_ok-put_count.ensures (passes_stop _ _ c.in_err-put_count-2.ensures))

pub returns-in_err-put_count-3 : goal.returns-in_err-put_count-3
unfolding sums_line
returns-in_err-put_count-3 g c =
    let p = err_from_is_err_and c.from_residual-in_err-put_count-3.result c.from_residual-in_err-put_count-3.ensures.1 in
    rw (p.1, p.2) (passes_next c.in_ok-put_count.ensures (passes_next c.in_ok-put_count-2.ensures
    (passes_stop _ _ c.in_err-put_count-3.ensures)))

pub returns : goal.returns
unfolding sums_line
returns g c = passes_next c.in_ok-put_count.ensures (passes_next c.in_ok-put_count-2.ensures
    (passes_next c.in_ok-put_count-3.ensures (passes_last c.put_bytes.ensures)))
