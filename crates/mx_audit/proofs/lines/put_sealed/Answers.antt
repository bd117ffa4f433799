use Rattle.std.proofs.Common.{sym, ap, arith}
use Rattle.std.proofs.lemmas.Result.{err_from_is_err_and}
use Rattle.std.proofs.lemmas.Option.{get_or_from_slice_get}
use Rattle.mx_audit.specs.Lines.{sealed_line}
use Rattle.mx_audit.proofs.RunLaws.{in-ram-at}
use Rattle.mx_tail.proofs.PassLaws.{passes_same, coming_all, coming_item, coming_item_stop, coming_items}
use Rattle.mx_audit.proofs.lines.put_sealed.Goals as goal

pub loop-i-init : goal.loop-i-init
loop-i-init g c = coming_all _ _ _

pub put_run-requires : goal.put_run-requires
put_run-requires g c = in-ram-at c.args.sealed.now c.loop-i.i c.get.result c.requires c.get.ensures

pub returns-in_err-put_run : goal.returns-in_err-put_run
returns-in_err-put_run g c =
    let p = err_from_is_err_and c.from_residual.result c.from_residual.ensures.1 in
    rw (p.1, p.2) (coming_item_stop sealed_line c.args.sealed.now c.loop-i.i c.get.result (omega arith) c.loop-i.invariant
    (passes_same (ap sealed_line (sym (get_or_from_slice_get c.args.sealed.now c.loop-i.i c.get.result c.get.result c.get.ensures)))
    c.in_err-put_run.ensures))

pub loop-i-preserved : goal.loop-i-preserved
loop-i-preserved g c =
    coming_item sealed_line c.args.sealed.now c.loop-i.i c.get.result (omega arith) c.loop-i.invariant
    (passes_same (ap sealed_line (sym (get_or_from_slice_get c.args.sealed.now c.loop-i.i c.get.result c.get.result c.get.ensures)))
    c.in_ok-put_run.ensures)

pub returns : goal.returns
returns g c = coming_items sealed_line c.args.sealed.now c.loop-i.i (omega arith) c.loop-i.invariant
