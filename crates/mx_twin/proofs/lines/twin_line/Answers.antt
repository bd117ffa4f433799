use Rattle.std.proofs.lemmas.Result.{err_from_is_err_and}
use Rattle.mx_tail.proofs.PassLaws.{whole_end, whole_stop}
use Rattle.mx_twin.proofs.lines.twin_line.Goals as goal

pub returns-in_err-put_twin : goal.returns-in_err-put_twin
returns-in_err-put_twin g c =
    let p = err_from_is_err_and c.from_residual.result c.from_residual.ensures.1 in
    rw (p.1, p.2) (whole_stop c.new-tail.ensures c.in_err-put_twin.ensures)

pub returns : goal.returns
returns g c = whole_end c.new-tail.ensures c.in_ok-put_twin.ensures c.end.ensures.puts
