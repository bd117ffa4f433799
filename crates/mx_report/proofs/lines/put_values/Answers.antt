use Rattle.std.proofs.lemmas.Result.{err_from_is_err_and}
use Rattle.mx_report.specs.Lines.{register_text}
use Rattle.mx_tail.proofs.PassLaws.{coming_item, coming_item_stop, coming_items}
use Rattle.mx_report.proofs.lines.put_values.Goals as goal

pub returns-in_err-put_value : goal.returns-in_err-put_value
returns-in_err-put_value g c =
    let p = err_from_is_err_and c.from_residual.result c.from_residual.ensures.1 in
    rw (p.1, p.2) (coming_item_stop register_text _ _ 0 c.loop-value-test.true c.loop-value.invariant c.in_err-put_value.ensures)

pub loop-value-preserved : goal.loop-value-preserved
loop-value-preserved g c = coming_item register_text _ _ 0 c.loop-value-test.true c.loop-value.invariant c.in_ok-put_value.ensures

pub returns : goal.returns
returns g c = coming_items register_text _ _ c.loop-value-test.false c.loop-value.invariant
