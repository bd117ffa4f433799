use Rattle.std.proofs.lemmas.Result.{err_from_is_err_and}
use Rattle.mx_image.specs.Image.{little_endian}
use Rattle.mx_tail.proofs.PassLaws.{coming_item, coming_item_stop, coming_items}
use Rattle.mx_snapshot.proofs.numbers.put_numbers.Goals as goal

pub returns-in_err-put_number : goal.returns-in_err-put_number
returns-in_err-put_number g c =
    let p = err_from_is_err_and c.from_residual.result c.from_residual.ensures.1 in
    rw (p.1, p.2) (coming_item_stop (little_endian 4) _ _ 0 c.loop-value-test.true c.loop-value.invariant c.in_err-put_number.ensures)

pub loop-value-preserved : goal.loop-value-preserved
loop-value-preserved g c = coming_item (little_endian 4) _ _ 0 c.loop-value-test.true c.loop-value.invariant c.in_ok-put_number.ensures

pub returns : goal.returns
returns g c = coming_items (little_endian 4) _ _ c.loop-value-test.false c.loop-value.invariant
