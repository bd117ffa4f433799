use Rattle.std.proofs.Common.{arith, ◌<◌, length, drop, length-drop}
use Rattle.std.proofs.lemmas.List.{drop-drop, drop_all}
use Rattle.std.proofs.lemmas.Result.{err_from_is_err_and}
use Rattle.mx_io.proofs.Text.{left_all, left_none, left_write, left_write_stop}
use Rattle.mx_io.proofs.sink.put_all.Goals as goal

pub parts-init : goal.parts-init
parts-init g c = record { within = omega arith; left = left_all _ _ }

pub overflow_add-done : goal.overflow_add-done
overflow_add-done g c = let w = c.in_ok-done.ensures.bound in omega (arith, w, length-drop c.parts.done c.args.bytes.now, c.parts-test.true)

pub parts-smaller : goal.parts-smaller
parts-smaller g c =
    let w = c.in_ok-done.ensures in
    let n = length-drop c.parts.done c.args.bytes.now in
    let more : 0 < length (drop c.parts.done c.args.bytes.now) = omega (arith, n, c.parts-test.true) in
    omega (arith, w.moves more, w.bound, n, c.parts-test.true)

pub parts-preserved : goal.parts-preserved
parts-preserved g c =
    let w = c.in_ok-done.ensures in
    let n = length-drop c.parts.done c.args.bytes.now in
    let more : 0 < length (drop c.parts.done c.args.bytes.now) = omega (arith, n, c.parts-test.true) in
    record {
      within = omega (arith, w.bound, n, c.parts-test.true);
      left = rw drop-drop at (left_write c.parts.invariant.left more w);
    }

pub returns-in_err-done : goal.returns-in_err-done
returns-in_err-done g c =
    let n = length-drop c.parts.done c.args.bytes.now in
    let more : 0 < length (drop c.parts.done c.args.bytes.now) = omega (arith, n, c.parts-test.true) in
    let p = err_from_is_err_and c.from_residual.result c.from_residual.ensures.1 in
    rw (p.1, p.2) (left_write_stop c.parts.invariant.left more c.in_err-done.ensures)

pub returns : goal.returns
returns g c = left_none (rw (drop_all c.parts.done c.args.bytes.now c.parts-test.false) at c.parts.invariant.left)
