use Rattle.std.proofs.Common.{◌≤◌, subst, ◌∷◌, [], length, Ok, Err, arith}
use Rattle.mx_boot.specs.Laid.{AreAsked}
use Rattle.mx_boot.specs.Seen.{seen}
use Rattle.mx_boot.proofs.Asked.{each-next, each-stops, each-ends, each-single}
use Rattle.mx_boot.specs.Entries.{return_request}
use Rattle.mx_boot.proofs.gates.ask_returns.Goals as goal

pub returns-preserved : goal.returns-preserved
returns-preserved c =
    each-next c.args.areas.now c.args.gates.now.items (λ entry. return_request (seen c.args.home) entry ∷ []) c.args.home.plan.now.returns
    c.returns.k c.get.result.now c.returns.gates.items c.ask.new.gates.items (Ok tt) c.get.ensures c.returns.invariant
    (subst (λ r. AreAsked c.args.areas.now c.returns.gates.items (r ∷ []) c.ask.new.gates.items (Ok tt))
    (c.request_for-request.ensures c.get.result.now c.known_address-address.ensures) c.in-Ok.ensures)

pub returns-in-Err : goal.returns-in-Err
returns-in-Err c =
    each-single c.args.areas.now c.args.gates.now.items (return_request (seen c.args.home)) c.args.home.plan.now.returns
    c.ask.new.gates.items (Err c.in-Err.refused)
    (each-stops c.args.areas.now c.args.gates.now.items (λ entry. return_request (seen c.args.home) entry ∷ []) c.args.home.plan.now.returns
    c.returns.k c.get.result.now c.returns.gates.items c.ask.new.gates.items c.in-Err.refused c.get.ensures c.returns.invariant
    (subst (λ r. AreAsked c.args.areas.now c.returns.gates.items (r ∷ []) c.ask.new.gates.items (Err c.in-Err.refused))
    (c.request_for-request.ensures c.get.result.now c.known_address-address.ensures) c.in-Err.ensures))

pub returns : goal.returns
returns c =
    let past : length c.args.home.plan.now.returns ≤ c.returns.k = omega (arith, c.len-k-end.ensures) in
    each-single c.args.areas.now c.args.gates.now.items (return_request (seen c.args.home)) c.args.home.plan.now.returns
    c.returns.gates.items (Ok tt)
    (each-ends c.args.areas.now c.args.gates.now.items (λ entry. return_request (seen c.args.home) entry ∷ []) c.args.home.plan.now.returns
    c.returns.k c.returns.gates.items (Ok tt) past c.returns.invariant)
