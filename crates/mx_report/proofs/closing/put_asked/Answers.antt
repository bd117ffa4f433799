use Rattle.std.proofs.lemmas.Result.{err_from_is_err_and}
use Rattle.mx_report.specs.Texts.{asked_lines}
use Rattle.mx_tail.proofs.PassLaws.{passes_next, passes_stop, passes_last}
use Rattle.mx_report.proofs.closing.put_asked.Goals as goal

pub returns-in_err-put_asked_tables : goal.returns-in_err-put_asked_tables
unfolding asked_lines
returns-in_err-put_asked_tables g c =
    let p = err_from_is_err_and c.from_residual.result c.from_residual.ensures.1 in
    rw (p.1, p.2) (passes_stop _ _ c.in_err-put_asked_tables.ensures)

pub returns : goal.returns
unfolding asked_lines
returns g c = passes_next c.in_ok-put_asked_tables.ensures (passes_last c.put_asked_counts.ensures)

pub put_asked_tables-requires : goal.put_asked_tables-requires
put_asked_tables-requires g c = search

pub put_asked_counts-requires : goal.put_asked_counts-requires
put_asked_counts-requires g c = search
