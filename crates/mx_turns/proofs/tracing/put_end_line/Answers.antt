use Rattle.std.proofs.lemmas.Result.{err_from_is_err_and}
use Rattle.mx_tail.proofs.PassLaws.{passes_failed}
use Rattle.mx_turns.proofs.Sinking.{passes_end}
use Rattle.mx_turns.proofs.tracing.put_end_line.Goals as goal

pub returns-in_err-put_end : goal.returns-in_err-put_end
returns-in_err-put_end g c =
    let p = err_from_is_err_and c.from_residual.result c.from_residual.ensures.1 in
    rw (p.1, p.2) (passes_failed (rw (c.steps.ensures, c.end_of_any.ensures) at c.in_err-put_end.ensures.passes))

pub returns : goal.returns
returns g c = passes_end (rw (c.steps.ensures, c.end_of_any.ensures) at c.in_ok-put_end.ensures.passes) c.end.ensures.puts
