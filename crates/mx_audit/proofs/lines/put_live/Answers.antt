use Rattle.std.proofs.Common.{ℕ, List, Bor, ◌+◌, ◌-◌, length, map, refl, ap, ◌∙◌, arith}
use Rattle.std.proofs.lemmas.List.{length-map}
use Rattle.std.proofs.lemmas.Result.{err_from_is_err_and}
use Rattle.mx_audit.specs.Lines.{live_lines, live_text}
use Rattle.mx_audit.specs.Marks.{is_marked}
use Rattle.mx_report.proofs.RangeTexts.{at_number}
use Rattle.mx_tail.proofs.PassLaws.{passes_same, coming_range, coming_number, coming_number_stop, coming_numbers}
use Rattle.mx_audit.proofs.lines.put_live.Goals as goal

pub loop-i-init : goal.loop-i-init
unfolding live_lines
loop-i-init g c = coming_range _ _ _ 1 (length (map (λ (name : Bor (List ℕ)). name.now) c.args.names.now)) _
    (omega (arith, length-map c.args.names.now (λ (name : Bor (List ℕ)). name.now)))

pub returns-in_err-put_domain : goal.returns-in_err-put_domain
returns-in_err-put_domain g c =
    let p = err_from_is_err_and c.from_residual.result c.from_residual.ensures.1 in
    let n = length c.args.names.now in
    let i = c.loop-i.i in
    rw (p.1, p.2) (coming_number_stop _ (i + 1) (n - i) (n - (i + 1)) (omega arith) c.loop-i.invariant
    (passes_same (ap (live_text (i + 1) _) c.is_marked.ensures
    ∙ ap (λ name. live_text (i + 1) name (is_marked c.args.live.now (i + 1)))
    (at_number (λ (name : Bor (List ℕ)). name.now) c.args.names.now i _ refl)) c.in_err-put_domain.ensures))

pub loop-i-preserved : goal.loop-i-preserved
loop-i-preserved g c =
    let n = length c.args.names.now in
    let i = c.loop-i.i in
    coming_number _ (i + 1) (n - i) (n - (i + 1)) (omega arith) c.loop-i.invariant
    (passes_same (ap (live_text (i + 1) _) c.is_marked.ensures
    ∙ ap (λ name. live_text (i + 1) name (is_marked c.args.live.now (i + 1)))
    (at_number (λ (name : Bor (List ℕ)). name.now) c.args.names.now i _ refl)) c.in_ok-put_domain.ensures)

pub returns : goal.returns
returns g c = coming_numbers _ (c.loop-i.i + 1) (length c.args.names.now - c.loop-i.i) (omega arith) c.loop-i.invariant
