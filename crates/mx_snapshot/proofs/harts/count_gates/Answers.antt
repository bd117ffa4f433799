use Rattle.std.proofs.Common.{◌≤◌, arith, length, sym, ◌∙◌}
use Rattle.mx_any.specs.Machines.{meaning}
use Rattle.mx_snapshot.proofs.PlaceLaws.{is_within, is_behind}
use Rattle.mx_snapshot.proofs.harts.count_gates.Goals as goal

pub overflow_add-count : goal.overflow_add-count
overflow_add-count c =
    let xs = (meaning c.args.machine.now).core.gates in
    let within = is_within c.gate.result xs c.gates.count c.gate.ensures (sym c.is_some.ensures ∙ c.gates-test.true) in
    let few : length xs ≤ 256 = c.any_machine_is_valid.ensures.valid.few_gates in
    omega (arith, within, few)

pub gates-smaller : goal.gates-smaller
gates-smaller c =
    let within = is_within c.gate.result (meaning c.args.machine.now).core.gates c.gates.count c.gate.ensures (sym c.is_some.ensures
    ∙ c.gates-test.true) in
    omega (arith, within)

pub gates-preserved : goal.gates-preserved
gates-preserved c =
    let within = is_within c.gate.result (meaning c.args.machine.now).core.gates c.gates.count c.gate.ensures (sym c.is_some.ensures
    ∙ c.gates-test.true) in
    omega (arith, within)

pub returns : goal.returns
returns c =
    let behind = is_behind c.gate.result (meaning c.args.machine.now).core.gates c.gates.count c.gate.ensures (sym c.is_some.ensures
    ∙ c.gates-test.false) in
    let within = c.gates.invariant in
    omega (arith, behind, within)
