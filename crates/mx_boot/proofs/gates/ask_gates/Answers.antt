use Rattle.std.proofs.Common.{◌≤◌, length, Ok, arith}
use Rattle.mx_boot.specs.Seen.{seen}
use Rattle.mx_boot.proofs.Asked.{each-next, each-stops, each-ends}
use Rattle.mx_boot.specs.Areas.{homes}
use Rattle.mx_boot.specs.Entries.{requests_of}
use Rattle.mx_boot.proofs.Homes.{length-homes}
use Rattle.mx_boot.proofs.gates.ask_gates.Goals as goal

pub modules-preserved : goal.modules-preserved
modules-preserved c =
    each-next c.args.areas.now c.args.gates.now.items (requests_of) (homes c.args.plan.now c.args.images.now) c.modules.i
    (seen c.home_at.result) c.modules.gates.items c.ask_module.new.gates.items (Ok tt) c.home_at.ensures.home c.modules.invariant
    c.in-Ok.ensures

pub returns-in-Err : goal.returns-in-Err
returns-in-Err c =
    each-stops c.args.areas.now c.args.gates.now.items (requests_of) (homes c.args.plan.now c.args.images.now) c.modules.i
    (seen c.home_at.result) c.modules.gates.items c.ask_module.new.gates.items c.in-Err.refused c.home_at.ensures.home
    c.modules.invariant c.in-Err.ensures

pub returns : goal.returns
returns c =
    let past : length (homes c.args.plan.now c.args.images.now) ≤ c.modules.i =
    omega (arith, length-homes c.args.plan.now c.args.images.now, c.modules-i-end.ensures.value) in
    each-ends c.args.areas.now c.args.gates.now.items (requests_of) (homes c.args.plan.now c.args.images.now) c.modules.i
    c.modules.gates.items (Ok tt) past c.modules.invariant
