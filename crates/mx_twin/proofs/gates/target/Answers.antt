use Rattle.std.proofs.Common.{sym, ◌∙◌, arith}
use Rattle.mx_any.specs.Machines.{meaning}
use Rattle.mx_twin.proofs.GateLists.{left-more, some-below, target-here, target-none}
use Rattle.mx_twin.proofs.gates.target.Goals as goal

pub returns-then-is_at : goal.returns-then-is_at
returns-then-is_at c =
    target-here (meaning c.args.machine.now).core.gates c.args.domain c.args.word c.gates.i c.gates.invariant c.in-Some.gate
    (sym c.in-Some.is ∙ c.gate.ensures) (sym c.is_at.ensures ∙ c.if-is_at.true)

pub gates-smaller : goal.gates-smaller
gates-smaller c =
    let below = some-below (meaning c.args.machine.now).core.gates c.gates.i c.in-Some.gate (sym c.in-Some.is ∙ c.gate.ensures) in
    omega (arith, below)

pub gates-preserved : goal.gates-preserved
gates-preserved c =
    left-more (meaning c.args.machine.now).core.gates c.args.domain c.args.word c.gates.i c.gates.invariant c.in-Some.gate
    (sym c.in-Some.is ∙ c.gate.ensures) (sym c.is_at.ensures ∙ c.if-is_at.false)

pub returns : goal.returns
returns c =
    target-none (meaning c.args.machine.now).core.gates c.args.domain c.args.word c.gates.i c.gates.invariant
    (sym c.in_default.is ∙ c.gate.ensures)
