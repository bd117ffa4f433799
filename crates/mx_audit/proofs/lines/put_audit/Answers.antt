use Rattle.std.proofs.Common.{ap}
use Rattle.std.proofs.lemmas.Result.{err_from_is_err_and}
use Rattle.mx_audit.specs.Lines.{report, words_line}
use Rattle.mx_tail.proofs.PassLaws.{passes_same, passes_next, passes_stop, passes_last}
use Rattle.mx_audit.proofs.lines.put_audit.Goals as goal

pub returns-in_err-put_live : goal.returns-in_err-put_live
unfolding report
returns-in_err-put_live g c =
    let p = err_from_is_err_and c.from_residual.result c.from_residual.ensures.1 in
    rw (p.1, p.2) (passes_stop _ _ c.in_err-put_live.ensures)

pub returns-in_err-put_sealed : goal.returns-in_err-put_sealed
unfolding report
returns-in_err-put_sealed g c =
    let p = err_from_is_err_and c.from_residual-in_err-put_sealed.result c.from_residual-in_err-put_sealed.ensures.1 in
    rw (p.1, p.2) (passes_next c.in_ok-put_live.ensures (passes_stop _ _ c.in_err-put_sealed.ensures))

pub returns : goal.returns
unfolding report
returns g c = passes_next c.in_ok-put_live.ensures (passes_next c.in_ok-put_sealed.ensures
    (passes_last (passes_same (ap words_line c.words_of.ensures) c.put_words.ensures)))
