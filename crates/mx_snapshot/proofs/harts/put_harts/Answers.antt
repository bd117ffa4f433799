use Rattle.std.proofs.Common.{arith}
use Rattle.std.proofs.lemmas.Result.{err_from_is_err_and}
use Rattle.mx_any.specs.Machines.{meaning}
use Rattle.mx_model.specs.State.{Hart, no_hart}
use Rattle.mx_snapshot.specs.Spelling.{hart_bytes}
use Rattle.mx_snapshot.specs.Stored.{stored_hart}
use Rattle.mx_tail.proofs.PassLaws.{coming_item, coming_item_stop, coming_items}
use Rattle.mx_snapshot.proofs.harts.put_harts.Goals as goal

pub returns-in_err-put_hart : goal.returns-in_err-put_hart
returns-in_err-put_hart g c =
    let p = err_from_is_err_and c.from_residual.result c.from_residual.ensures.1 in
    let harts = (meaning c.args.machine.now).core.harts in
    rw (p.1, p.2) (coming_item_stop (λ (h : Hart). hart_bytes (stored_hart h)) harts c.loop-hart.hart no_hart
    (omega (arith, c.loop-hart-test.true, c.harts-hart-end.ensures)) c.loop-hart.invariant c.in_err-put_hart.ensures)

pub loop-hart-preserved : goal.loop-hart-preserved
loop-hart-preserved g c =
    let harts = (meaning c.args.machine.now).core.harts in
    coming_item (λ (h : Hart). hart_bytes (stored_hart h)) harts c.loop-hart.hart no_hart
    (omega (arith, c.loop-hart-test.true, c.harts-hart-end.ensures)) c.loop-hart.invariant c.in_ok-put_hart.ensures

pub returns : goal.returns
returns g c =
    let harts = (meaning c.args.machine.now).core.harts in
    coming_items (λ (h : Hart). hart_bytes (stored_hart h)) harts c.loop-hart.hart
    (omega (arith, c.loop-hart-test.false, c.harts-hart-end.ensures)) c.loop-hart.invariant
