use Rattle.std.proofs.Common.{ap}
use Rattle.std.proofs.lemmas.Result.{err_from_is_err_and}
use Rattle.mx_words.specs.declared.tables.Need.{Need}
use Rattle.mx_report.specs.Lines.{tables_line}
use Rattle.mx_report.specs.Texts.{table_lines}
use Rattle.mx_tail.proofs.PassLaws.{passes_same, passes_next, passes_stop, passes_last}
use Rattle.mx_report.proofs.tables.put_tables.Goals as goal

pub returns-in_err-put_used : goal.returns-in_err-put_used
unfolding table_lines
returns-in_err-put_used g c =
    let p = err_from_is_err_and c.from_residual.result c.from_residual.ensures.1 in
    rw (p.1, p.2) (passes_stop _ _ (passes_same (ap (λ (u : Need). tables_line c.args.kind u c.args.limit) c.used.ensures)
    c.in_err-put_used.ensures))

pub returns : goal.returns
unfolding table_lines
returns g c =
    passes_next (passes_same (ap (λ (u : Need). tables_line c.args.kind u c.args.limit) c.used.ensures) c.in_ok-put_used.ensures)
    (passes_last c.put_items.ensures)

pub used-requires : goal.used-requires
used-requires g c = search

pub put_items-requires : goal.put_items-requires
put_items-requires g c = search
