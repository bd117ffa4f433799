use Rattle.std.proofs.lemmas.Result.{err_from_is_err_and}
use Rattle.mx_tail.proofs.PassLaws.{passes_last, passes_next, passes_same, passes_stop}
use Rattle.mx_mill.proofs.lines.put_count.Goals as goal

pub returns-in_err-put_bytes : goal.returns-in_err-put_bytes
returns-in_err-put_bytes g c =
    let p = err_from_is_err_and c.from_residual.result c.from_residual.ensures.1 in
    rw (p.1, p.2) (passes_stop _ _ (passes_same c.as_bytes.ensures.value c.in_err-put_bytes.ensures))

pub returns : goal.returns
returns g c =
    passes_next (passes_same c.as_bytes.ensures.value c.in_ok-put_bytes.ensures)
    (passes_last (passes_same (rw c.format.ensures.text at c.as_bytes-2.ensures.value) c.put_bytes-2.ensures))
