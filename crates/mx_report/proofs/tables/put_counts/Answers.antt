use Rattle.std.proofs.Common.{rules, ◌+◌, ◌-◌, length, arith}
use Rattle.std.proofs.lemmas.Result.{err_from_is_err_and}
use Rattle.mx_model.specs.State.{cache_at}
use Rattle.mx_report.specs.Texts.{counts_lines}
use Rattle.mx_report.proofs.CountsLine.{told_counts}
use Rattle.mx_report.proofs.RangeTexts.{one_less, none_left}
use Rattle.mx_tail.proofs.PassLaws.{passes_same, coming_range, coming_number, coming_number_stop, coming_numbers}
use Rattle.mx_report.proofs.tables.put_counts.Goals as goal

pub loop-hart-init : goal.loop-hart-init
unfolding counts_lines
loop-hart-init g c = coming_range _ _ _ 0 (length c.args.machine.now.core.harts) _ (omega arith)

pub returns-in_err-put_hart_counts : goal.returns-in_err-put_hart_counts
returns-in_err-put_hart_counts g c =
    let p = err_from_is_err_and c.from_residual.result c.from_residual.ensures.1 in
    let n = length c.args.machine.now.core.harts in
    rw (p.1, p.2) (coming_number_stop _ c.loop-hart.hart (n - c.loop-hart.hart) (n - (c.loop-hart.hart + 1))
    (one_less _ _ _ c.loop-hart-test.true c.harts-hart-end.ensures) c.loop-hart.invariant
    (passes_same (told_counts c.loop-hart.hart _ _ _ (cache_at c.args.machine.now.core c.loop-hart.hart) c.counts.ensures.sidecar
    c.counts.ensures.lookaside c.counts.ensures.walks) c.in_err-put_hart_counts.ensures))

pub loop-hart-preserved : goal.loop-hart-preserved
loop-hart-preserved g c =
    let n = length c.args.machine.now.core.harts in
    coming_number _ c.loop-hart.hart (n - c.loop-hart.hart) (n - (c.loop-hart.hart + 1))
    (one_less _ _ _ c.loop-hart-test.true c.harts-hart-end.ensures) c.loop-hart.invariant
    (passes_same (told_counts c.loop-hart.hart _ _ _ (cache_at c.args.machine.now.core c.loop-hart.hart) c.counts.ensures.sidecar
    c.counts.ensures.lookaside c.counts.ensures.walks) c.in_ok-put_hart_counts.ensures)

pub returns : goal.returns
returns g c =
    let n = length c.args.machine.now.core.harts in
    coming_numbers _ c.loop-hart.hart (n - c.loop-hart.hart) (none_left _ _ _ c.loop-hart-test.false c.harts-hart-end.ensures)
    c.loop-hart.invariant

pub harts-hart-end-requires : goal.harts-hart-end-requires
harts-hart-end-requires g c = search

pub counts-requires : goal.counts-requires
counts-requires g c = (search, search rules)
