use Rattle.std.proofs.Common.{◌≡◌, ◌+◌, suc, List, ◌||◌, drop, sym, ap, ◌∙◌, arith}
use Rattle.std.proofs.lemmas.Bool.{or_left}
use Rattle.mx_any.specs.Machines.{meaning}
use Rattle.mx_model.specs.declared.values.Gate.{Gate}
use Rattle.mx_model.specs.Gates.{has_gate, is_at}
use Rattle.mx_debug.proofs.EntryLaws.{none_drop, some_below, some_drop}
use Rattle.mx_debug.proofs.rows.has_gate.Goals as goal

pub returns-then-is_at : goal.returns-then-is_at
returns-then-is_at c =
    let gates = (meaning c.args.machine.now).core.gates in
    let d = c.args.domain in
    let word = c.args.word in
    sym (sym c.gates.invariant.left
    ∙ ap (λ (gs : List Gate). has_gate gs d word) (some_drop gates c.gates.i c.in-Some.gate (sym c.in-Some.is ∙ c.gate.ensures))
    ∙ or_left (is_at d word c.in-Some.gate) (has_gate (drop (suc c.gates.i) gates) d word) (sym c.is_at.ensures ∙ c.if-is_at.true))

pub gates-preserved : goal.gates-preserved
gates-preserved c =
    let gates = (meaning c.args.machine.now).core.gates in
    let d = c.args.domain in
    let word = c.args.word in
    let next : c.gates.i + 1 ≡ suc c.gates.i = omega arith in
    let here = sym c.in-Some.is ∙ c.gate.ensures in
    let below = some_below gates c.gates.i c.in-Some.gate here in
    record {
      left = ap (λ j. has_gate (drop j gates) d word) next
          ∙ sym (ap (λ b. b || has_gate (drop (suc c.gates.i) gates) d word) (sym c.is_at.ensures ∙ c.if-is_at.false))
          ∙ sym (ap (λ (gs : List Gate). has_gate gs d word) (some_drop gates c.gates.i c.in-Some.gate here))
          ∙ c.gates.invariant.left;
      within = omega (arith, below);
    }

pub gates-smaller : goal.gates-smaller
gates-smaller c =
    let below = some_below (meaning c.args.machine.now).core.gates c.gates.i c.in-Some.gate (sym c.in-Some.is ∙ c.gate.ensures) in
    omega (arith, below)

pub returns : goal.returns
returns c =
    let gates = (meaning c.args.machine.now).core.gates in
    sym (sym c.gates.invariant.left ∙ ap (λ (gs : List Gate). has_gate gs c.args.domain c.args.word)
    (none_drop gates c.gates.i (sym c.in_default.is ∙ c.gate.ensures)))
