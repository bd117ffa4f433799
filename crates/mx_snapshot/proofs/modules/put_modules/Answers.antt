use Rattle.std.proofs.Common.{ℕ, List, ◌+◌, ◌-◌, length, ap, arith}
use Rattle.std.proofs.lemmas.Result.{err_from_is_err_and}
use Rattle.mx_any.specs.Machines.{meaning}
use Rattle.mx_snapshot.specs.Spelling.{module_bytes}
use Rattle.mx_snapshot.specs.Stored.{stored_module}
use Rattle.mx_snapshot.proofs.PlaceLaws.{named_at}
use Rattle.mx_tail.proofs.PassLaws.{passes_same, coming_range, coming_number, coming_number_stop, coming_numbers}
use Rattle.mx_snapshot.proofs.modules.put_modules.Goals as goal

pub loop-i-init : goal.loop-i-init
loop-i-init g c = coming_range _ _ _ 1 (length (meaning c.args.machine.now).core.modules) _ (omega arith)

pub returns-in_err-put_module : goal.returns-in_err-put_module
returns-in_err-put_module g c =
    let p = err_from_is_err_and c.from_residual.result c.from_residual.ensures.1 in
    let f = meaning c.args.machine.now in
    let n = length f.core.modules in
    let named = ap (λ (name : List ℕ). module_bytes (stored_module name f (c.loop-i.i + 1)))
    (named_at c.args.plan.now.names c.loop-i.i _ c.name.ensures.value) in
    rw (p.1, p.2) (coming_number_stop _ (c.loop-i.i + 1) (n - c.loop-i.i) (n - (c.loop-i.i + 1))
    (omega (arith, c.loop-i-test.true, c.modules-i-end.ensures)) c.loop-i.invariant (passes_same named c.in_err-put_module.ensures))

pub loop-i-preserved : goal.loop-i-preserved
loop-i-preserved g c =
    let f = meaning c.args.machine.now in
    let n = length f.core.modules in
    let named = ap (λ (name : List ℕ). module_bytes (stored_module name f (c.loop-i.i + 1)))
    (named_at c.args.plan.now.names c.loop-i.i _ c.name.ensures.value) in
    coming_number _ (c.loop-i.i + 1) (n - c.loop-i.i) (n - (c.loop-i.i + 1)) (omega (arith, c.loop-i-test.true, c.modules-i-end.ensures))
    c.loop-i.invariant (passes_same named c.in_ok-put_module.ensures)

pub returns : goal.returns
returns g c =
    let n = length (meaning c.args.machine.now).core.modules in
    coming_numbers _ (c.loop-i.i + 1) (n - c.loop-i.i) (omega (arith, c.loop-i-test.false, c.modules-i-end.ensures)) c.loop-i.invariant
