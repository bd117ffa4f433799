use Rattle.std.proofs.Common.{rules, ◌+◌, ◌-◌, length, arith}
use Rattle.std.proofs.lemmas.Result.{err_from_is_err_and}
use Rattle.mx_report.specs.Texts.{all_items}
use Rattle.mx_report.proofs.RangeTexts.{one_less, none_left}
use Rattle.mx_tail.proofs.PassLaws.{coming_range, coming_number, coming_number_stop, coming_numbers}
use Rattle.mx_report.proofs.tables.put_items.Goals as goal

pub loop-i-init : goal.loop-i-init
unfolding all_items
loop-i-init g c = coming_range _ _ _ 1 (length c.args.machine.now.core.modules) _ (omega arith)

pub returns-in_err-put_domain_items : goal.returns-in_err-put_domain_items
returns-in_err-put_domain_items g c =
    let p = err_from_is_err_and c.from_residual.result c.from_residual.ensures.1 in
    let n = length c.args.machine.now.core.modules in
    rw (p.1, p.2) (coming_number_stop _ (c.loop-i.i + 1) (n - c.loop-i.i) (n - (c.loop-i.i + 1))
    (one_less _ _ _ c.loop-i-test.true c.modules-i-end.ensures) c.loop-i.invariant (c.in_err-put_domain_items.ensures))

pub loop-i-preserved : goal.loop-i-preserved
loop-i-preserved g c =
    let n = length c.args.machine.now.core.modules in
    coming_number _ (c.loop-i.i + 1) (n - c.loop-i.i) (n - (c.loop-i.i + 1)) (one_less _ _ _ c.loop-i-test.true c.modules-i-end.ensures)
    c.loop-i.invariant (c.in_ok-put_domain_items.ensures)

pub returns : goal.returns
returns g c =
    let n = length c.args.machine.now.core.modules in
    coming_numbers _ (c.loop-i.i + 1) (n - c.loop-i.i) (none_left _ _ _ c.loop-i-test.false c.modules-i-end.ensures) c.loop-i.invariant

pub modules-i-end-requires : goal.modules-i-end-requires
modules-i-end-requires g c = search

pub put_domain_items-requires : goal.put_domain_items-requires
put_domain_items-requires g c = (search, search rules)
