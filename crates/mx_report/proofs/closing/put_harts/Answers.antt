use Rattle.std.proofs.Common.{rules, ◌+◌, ◌-◌, length, ap, arith}
use Rattle.std.proofs.lemmas.Result.{err_from_is_err_and}
use Rattle.mx_model.specs.State.{hart_at}
use Rattle.mx_report.specs.Lines.{view_lines}
use Rattle.mx_report.specs.Texts.{all_harts}
use Rattle.mx_report.proofs.Views.{view_is}
use Rattle.mx_report.proofs.RangeTexts.{one_less, none_left}
use Rattle.mx_tail.proofs.PassLaws.{passes_same, coming_range, coming_number, coming_number_stop, coming_numbers}
use Rattle.mx_report.proofs.closing.put_harts.Goals as goal

pub loop-hart-init : goal.loop-hart-init
unfolding all_harts
loop-hart-init g c = coming_range _ _ _ 0 (length c.args.machine.now.core.harts) _ (omega arith)

pub returns-in_err-put_hart : goal.returns-in_err-put_hart
returns-in_err-put_hart g c =
    let p = err_from_is_err_and c.from_residual.result c.from_residual.ensures.1 in
    let n = length c.args.machine.now.core.harts in
    rw (p.1, p.2) (coming_number_stop _ c.loop-hart.hart (n - c.loop-hart.hart) (n - (c.loop-hart.hart + 1))
    (one_less _ _ _ c.loop-hart-test.true c.harts-hart-end.ensures) c.loop-hart.invariant
    (passes_same (ap (view_lines c.loop-hart.hart) (view_is (hart_at c.args.machine.now.core c.loop-hart.hart) c.hart.result
    c.hart.ensures)) c.in_err-put_hart.ensures))

pub loop-hart-preserved : goal.loop-hart-preserved
loop-hart-preserved g c =
    let n = length c.args.machine.now.core.harts in
    coming_number _ c.loop-hart.hart (n - c.loop-hart.hart) (n - (c.loop-hart.hart + 1))
    (one_less _ _ _ c.loop-hart-test.true c.harts-hart-end.ensures) c.loop-hart.invariant
    (passes_same (ap (view_lines c.loop-hart.hart) (view_is (hart_at c.args.machine.now.core c.loop-hart.hart) c.hart.result
    c.hart.ensures)) c.in_ok-put_hart.ensures)

pub returns : goal.returns
returns g c =
    let n = length c.args.machine.now.core.harts in
    coming_numbers _ c.loop-hart.hart (n - c.loop-hart.hart) (none_left _ _ _ c.loop-hart-test.false c.harts-hart-end.ensures)
    c.loop-hart.invariant

pub harts-hart-end-requires : goal.harts-hart-end-requires
harts-hart-end-requires g c = search

pub hart-requires : goal.hart-requires
hart-requires g c = (search, search rules)
