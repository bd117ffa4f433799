use Rattle.std.proofs.Common.{sym, ◌∙◌, arith}
use Rattle.mx_any.specs.Machines.{meaning}
use Rattle.mx_laws.specs.Comparison.{same_target}
use Rattle.mx_model.specs.declared.values.Gate.{Gate}
use Rattle.mx_twin.proofs.GateLists.{passed-all, passed-more, passed-not, some-below}
use Rattle.mx_twin.proofs.gates.same_gates_of.Goals as goal

pub returns-then-not-same_target : goal.returns-then-not-same_target
returns-then-not-same_target c =
    passed-not (λ (g : Gate). same_target (meaning c.args.a.now).core (meaning c.args.b.now).core c.args.domain g.word)
    (meaning c.args.of.now).core.gates
    c.gates.i c.gates.invariant c.in-Some.gate (sym c.in-Some.is ∙ c.gate.ensures) (sym c.same_target.ensures ∙ c.if-not-same_target.true)

pub gates-smaller : goal.gates-smaller
gates-smaller c =
    let below = some-below (meaning c.args.of.now).core.gates c.gates.i c.in-Some.gate (sym c.in-Some.is ∙ c.gate.ensures) in
    omega (arith, below)

pub gates-preserved : goal.gates-preserved
gates-preserved c =
    passed-more (λ (g : Gate). same_target (meaning c.args.a.now).core (meaning c.args.b.now).core c.args.domain g.word)
    (meaning c.args.of.now).core.gates
    c.gates.i c.gates.invariant c.in-Some.gate (sym c.in-Some.is ∙ c.gate.ensures) (sym c.same_target.ensures ∙ c.if-not-same_target.false)

pub returns : goal.returns
returns c =
    passed-all (λ (g : Gate). same_target (meaning c.args.a.now).core (meaning c.args.b.now).core c.args.domain g.word)
    (meaning c.args.of.now).core.gates
    c.gates.i c.gates.invariant (sym c.in_default.is ∙ c.gate.ensures)
