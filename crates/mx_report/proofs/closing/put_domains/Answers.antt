use Rattle.std.proofs.Common.{rules, ℕ, List, Bor, refl, ◌+◌, ◌-◌, length, ap, arith}
use Rattle.std.proofs.lemmas.Result.{err_from_is_err_and}
use Rattle.mx_model.specs.Reads.{map_in}
use Rattle.mx_model.specs.State.{module_at}
use Rattle.mx_report.specs.Texts.{all_domains, domain_lines}
use Rattle.mx_report.proofs.RangeTexts.{at_number, one_less, none_left}
use Rattle.mx_tail.proofs.PassLaws.{passes_same, coming_range, coming_number, coming_number_stop, coming_numbers}
use Rattle.mx_report.proofs.closing.put_domains.Goals as goal

pub loop-i-init : goal.loop-i-init
unfolding all_domains
loop-i-init g c = coming_range _ _ _ 1 (length c.args.machine.now.core.modules) _ (omega arith)

pub returns-in_err-put_domain : goal.returns-in_err-put_domain
returns-in_err-put_domain g c =
    let p = err_from_is_err_and c.from_residual.result c.from_residual.ensures.1 in
    let f = c.args.machine.now in
    let n = length c.args.machine.now.core.modules in
    rw (p.1, p.2) (coming_number_stop _ (c.loop-i.i + 1) (n - c.loop-i.i) (n - (c.loop-i.i + 1))
    (one_less _ _ _ c.loop-i-test.true c.modules-i-end.ensures) c.loop-i.invariant
    (passes_same (ap (λ name. domain_lines (c.loop-i.i + 1) name (module_at f.core (c.loop-i.i + 1)).dead
    (map_in f.core.size f.maps (c.loop-i.i + 1)))
    (at_number (λ (name : Bor (List ℕ)). name.now) c.args.names.now c.loop-i.i _ refl)) c.in_err-put_domain.ensures))

pub loop-i-preserved : goal.loop-i-preserved
loop-i-preserved g c =
    let f = c.args.machine.now in
    let n = length c.args.machine.now.core.modules in
    coming_number _ (c.loop-i.i + 1) (n - c.loop-i.i) (n - (c.loop-i.i + 1)) (one_less _ _ _ c.loop-i-test.true c.modules-i-end.ensures)
    c.loop-i.invariant (passes_same (ap (λ name. domain_lines (c.loop-i.i + 1) name (module_at f.core (c.loop-i.i + 1)).dead
    (map_in f.core.size f.maps (c.loop-i.i + 1)))
    (at_number (λ (name : Bor (List ℕ)). name.now) c.args.names.now c.loop-i.i _ refl)) c.in_ok-put_domain.ensures)

pub returns : goal.returns
returns g c =
    let f = c.args.machine.now in
    let n = length c.args.machine.now.core.modules in
    coming_numbers _ (c.loop-i.i + 1) (n - c.loop-i.i) (none_left _ _ _ c.loop-i-test.false c.modules-i-end.ensures) c.loop-i.invariant

pub modules-i-end-requires : goal.modules-i-end-requires
modules-i-end-requires g c = search

pub put_domain-requires : goal.put_domain-requires
put_domain-requires g c = (search, search rules)
