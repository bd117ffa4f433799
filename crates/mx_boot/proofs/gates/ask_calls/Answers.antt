use Rattle.std.proofs.Common.{◌≤◌, length, Ok, arith}
use Rattle.mx_boot.specs.Seen.{seen}
use Rattle.mx_boot.proofs.Asked.{each-next, each-stops, each-ends}
use Rattle.mx_boot.specs.Entries.{call_requests}
use Rattle.mx_boot.proofs.gates.ask_calls.Goals as goal

pub gates-preserved : goal.gates-preserved
gates-preserved c =
    each-next c.args.areas.now c.args.gates.now.items (call_requests (seen c.args.home)) c.args.home.plan.now.gates c.gates.k
    c.get.result.now c.gates.gates.items c.ask_call.new.gates.items (Ok tt) c.get.ensures c.gates.invariant c.in-Ok.ensures

pub returns-in-Err : goal.returns-in-Err
returns-in-Err c =
    each-stops c.args.areas.now c.args.gates.now.items (call_requests (seen c.args.home)) c.args.home.plan.now.gates c.gates.k
    c.get.result.now c.gates.gates.items c.ask_call.new.gates.items c.in-Err.refused c.get.ensures c.gates.invariant c.in-Err.ensures

pub returns : goal.returns
returns c =
    let past : length c.args.home.plan.now.gates ≤ c.gates.k = omega (arith, c.len-k-end.ensures) in
    each-ends c.args.areas.now c.args.gates.now.items (call_requests (seen c.args.home)) c.args.home.plan.now.gates c.gates.k
    c.gates.gates.items (Ok tt) past c.gates.invariant
