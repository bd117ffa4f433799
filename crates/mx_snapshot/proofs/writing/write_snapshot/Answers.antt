use Rattle.std.proofs.lemmas.Result.{err_from_is_err_and}
use Rattle.mx_snapshot.specs.Spelling.{spelling}
use Rattle.mx_tail.proofs.TailLaws.{puts_next, puts_stop}
use Rattle.mx_snapshot.proofs.writing.write_snapshot.Goals as goal

pub returns-in_err-put_front : goal.returns-in_err-put_front
unfolding spelling
returns-in_err-put_front g c =
    let p = err_from_is_err_and c.from_residual.result c.from_residual.ensures.1 in
    rw (p.1, p.2) (puts_stop _ c.in_err-put_front.ensures)

pub returns : goal.returns
unfolding spelling
returns g c = puts_next c.in_ok-put_front.ensures (rw c.ram_bytes.ensures at c.put_all.ensures)
