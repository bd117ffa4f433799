use Rattle.std.proofs.Common.{◌≤◌, subst, ◌∷◌, [], length, Ok, Err, arith}
use Rattle.mx_boot.specs.Laid.{AreAsked}
use Rattle.mx_boot.specs.Seen.{seen}
use Rattle.mx_boot.proofs.Asked.{each-next, each-stops, each-ends, each-single}
use Rattle.mx_manifest.specs.declared.fault.Key.TheVariants as key
use Rattle.mx_boot.specs.Entries.{request}
use Rattle.mx_boot.proofs.gates.ask_call.Goals as goal

pub names-preserved : goal.names-preserved
names-preserved c =
    each-next c.args.areas.now c.args.gates.now.items (λ domain. request (seen c.args.home) key.Gates c.args.gate.now.entry domain ∷ [])
    c.args.gate.now.from c.names.k c.get.result c.names.gates.items c.ask.new.gates.items (Ok tt) c.get.ensures c.names.invariant
    (subst (λ r. AreAsked c.args.areas.now c.names.gates.items (r ∷ []) c.ask.new.gates.items (Ok tt))
    (c.request_for-request.ensures c.args.gate.now.entry c.known_address-address.ensures) c.in-Ok.ensures)

pub returns-in-Err : goal.returns-in-Err
returns-in-Err c =
    each-single c.args.areas.now c.args.gates.now.items (request (seen c.args.home) key.Gates c.args.gate.now.entry) c.args.gate.now.from
    c.ask.new.gates.items (Err c.in-Err.refused)
    (each-stops c.args.areas.now c.args.gates.now.items (λ domain. request (seen c.args.home) key.Gates c.args.gate.now.entry domain ∷ [])
    c.args.gate.now.from c.names.k c.get.result c.names.gates.items c.ask.new.gates.items c.in-Err.refused c.get.ensures
    c.names.invariant (subst (λ r. AreAsked c.args.areas.now c.names.gates.items (r ∷ []) c.ask.new.gates.items (Err c.in-Err.refused))
    (c.request_for-request.ensures c.args.gate.now.entry c.known_address-address.ensures) c.in-Err.ensures))

pub returns : goal.returns
returns c =
    let past : length c.args.gate.now.from ≤ c.names.k = omega (arith, c.len-k-end.ensures) in
    each-single c.args.areas.now c.args.gates.now.items (request (seen c.args.home) key.Gates c.args.gate.now.entry) c.args.gate.now.from
    c.names.gates.items (Ok tt)
    (each-ends c.args.areas.now c.args.gates.now.items (λ domain. request (seen c.args.home) key.Gates c.args.gate.now.entry domain ∷ [])
    c.args.gate.now.from c.names.k c.names.gates.items (Ok tt) past c.names.invariant)
