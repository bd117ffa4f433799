use Rattle.std.proofs.Common.{◌≡◌, ap, ◌∙◌}
use Rattle.std.proofs.lemmas.Result.{err_from_is_err_and}
use Rattle.mx_words.specs.declared.tables.Kind.{Kind}
use Rattle.mx_words.specs.declared.tables.Need.{Need}
use Rattle.mx_model.specs.State.{Core}
use Rattle.mx_report.specs.declared.closing.Options.{Options}
use Rattle.mx_report.specs.Lines.{end_line}
use Rattle.mx_report.specs.Texts.{Told, closing_of, asked_lines}
use Rattle.mx_tail.proofs.PassLaws.{passes_same, passes_next, passes_stop, passes_last}
use Rattle.mx_report.proofs.closing.put_closing.Goals as goal

asked_same : (options : Options) (k l : Kind) (n o : Need) (c : Core) (t : Told) → k ≡ l → n ≡ o
    → asked_lines options k n c t ≡ asked_lines options l o c t
asked_same options k l n o c t e f = ap (λ (x : Kind). asked_lines options x n c t) e ∙ ap (λ (x : Need). asked_lines options l x c t) f

pub returns-in_err-put_end : goal.returns-in_err-put_end
unfolding closing_of
returns-in_err-put_end g c =
    let p = err_from_is_err_and c.from_residual.result c.from_residual.ensures.1 in
    rw (p.1, p.2)
    ((passes_stop _ _ (passes_same (ap (λ n. end_line n c.args.end) c.steps.ensures) c.in_err-put_end.ensures.passes)))

pub returns-in_err-put_harts : goal.returns-in_err-put_harts
unfolding closing_of
returns-in_err-put_harts g c =
    let p = err_from_is_err_and c.from_residual-in_err-put_harts.result c.from_residual-in_err-put_harts.ensures.1 in
    rw (p.1, p.2)
    ((passes_next (passes_same (ap (λ n. end_line n c.args.end) c.steps.ensures) c.in_ok-put_end.ensures.passes)
    (passes_stop _ _ (c.in_err-put_harts.ensures))))

pub returns-in_err-put_domains : goal.returns-in_err-put_domains
unfolding closing_of
returns-in_err-put_domains g c =
    let p = err_from_is_err_and c.from_residual-in_err-put_domains.result c.from_residual-in_err-put_domains.ensures.1 in
    rw (p.1, p.2)
    ((passes_next (passes_same (ap (λ n. end_line n c.args.end) c.steps.ensures) c.in_ok-put_end.ensures.passes)
    (passes_next (c.in_ok-put_harts.ensures) (passes_stop _ _ (c.in_err-put_domains.ensures)))))

pub returns-in_err-put_owners : goal.returns-in_err-put_owners
unfolding closing_of
returns-in_err-put_owners g c =
    let p = err_from_is_err_and c.from_residual-in_err-put_owners.result c.from_residual-in_err-put_owners.ensures.1 in
    rw (p.1, p.2)
    ((passes_next (passes_same (ap (λ n. end_line n c.args.end) c.steps.ensures) c.in_ok-put_end.ensures.passes)
    (passes_next (c.in_ok-put_harts.ensures) (passes_next (c.in_ok-put_domains.ensures)
    (passes_stop _ _ (c.in_err-put_owners.ensures))))))

pub returns : goal.returns
unfolding closing_of
returns g c =
    (passes_next (passes_same (ap (λ n. end_line n c.args.end) c.steps.ensures) c.in_ok-put_end.ensures.passes)
    (passes_next (c.in_ok-put_harts.ensures) (passes_next (c.in_ok-put_domains.ensures)
    (passes_next (c.in_ok-put_owners.ensures) (passes_last
    (passes_same (asked_same c.args.options _ _ _ _ _ _ c.requires.kind c.requires.limit) c.put_asked.ensures))))))

pub steps-requires : goal.steps-requires
steps-requires g c = search

pub put_harts-requires : goal.put_harts-requires
put_harts-requires g c = search

pub put_domains-requires : goal.put_domains-requires
put_domains-requires g c = search

pub put_owners-requires : goal.put_owners-requires
put_owners-requires g c = search

pub put_asked-requires : goal.put_asked-requires
put_asked-requires g c = search
