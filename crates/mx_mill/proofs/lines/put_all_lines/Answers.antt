use Rattle.std.proofs.Common.{◌≡◌, ℕ, ap, ◌∙◌}
use Rattle.std.proofs.lemmas.Result.{err_from_is_err_and}
use Rattle.mx_report.specs.declared.lines.EndState.{EndState}
use Rattle.mx_tail.proofs.PassLaws.{passes_last, passes_next, passes_same, passes_stop}
use Rattle.mx_mill.specs.Lines.{mill_line, mill_lines, used_line}
use Rattle.mx_mill.proofs.lines.put_all_lines.Goals as goal

first_same : (k a b : ℕ) (e f : EndState) → a ≡ b → e ≡ f → mill_line k a e ≡ mill_line k b f
first_same k a b e f p q = ap (λ n. mill_line k n e) p ∙ ap (λ s. mill_line k b s) q

pub returns-in_err-put_turns : goal.returns-in_err-put_turns
unfolding mill_lines
returns-in_err-put_turns g c =
    let p = err_from_is_err_and c.from_residual.result c.from_residual.ensures.1 in
    rw (p.1, p.2) (passes_stop _ _ (passes_same (first_same c.args.k _ _ _ _ c.steps.ensures c.end_of_any.ensures)
    c.in_err-put_turns.ensures))

pub returns-in_err-put_tally : goal.returns-in_err-put_tally
unfolding mill_lines
returns-in_err-put_tally g c =
    let p = err_from_is_err_and c.from_residual-in_err-put_tally.result c.from_residual-in_err-put_tally.ensures.1 in
    rw (p.1, p.2)
    (passes_next (passes_same (first_same c.args.k _ _ _ _ c.steps.ensures c.end_of_any.ensures) c.in_ok-put_turns.ensures)
    (passes_stop _ _ c.in_err-put_tally.ensures))

pub returns-in_err-put_totals : goal.returns-in_err-put_totals
unfolding mill_lines
returns-in_err-put_totals g c =
    let p = err_from_is_err_and c.from_residual-in_err-put_totals.result c.from_residual-in_err-put_totals.ensures.1 in
    rw (p.1, p.2)
    (passes_next (passes_same (first_same c.args.k _ _ _ _ c.steps.ensures c.end_of_any.ensures) c.in_ok-put_turns.ensures)
    (passes_next c.in_ok-put_tally.ensures (passes_stop _ _ c.in_err-put_totals.ensures)))

pub returns : goal.returns
unfolding mill_lines
returns g c =
    passes_next (passes_same (first_same c.args.k _ _ _ _ c.steps.ensures c.end_of_any.ensures) c.in_ok-put_turns.ensures)
    (passes_next c.in_ok-put_tally.ensures (passes_next c.in_ok-put_totals.ensures
    (passes_last (passes_same (ap used_line c.used.ensures) c.put_used.ensures))))
