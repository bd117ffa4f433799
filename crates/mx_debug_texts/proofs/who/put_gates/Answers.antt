use Rattle.std.proofs.Common.{◌≤◌, List, flat_map, length, ap, sym, ◌∙◌, arith}
use Rattle.std.proofs.lemmas.List.{take_all}
use Rattle.mx_any.specs.Machines.{meaning}
use Rattle.mx_model.specs.declared.values.Gate.{Gate}
use Rattle.mx_debug_texts.specs.Documents.{gate_text}
use Rattle.mx_debug_texts.specs.Window.{further}
use Rattle.mx_debug_texts.proofs.WindowLaws.{further_none, puts_got, take_past}
use Rattle.mx_debug_texts.proofs.who.put_gates.Goals as goal

pub gates-init : goal.gates-init
gates-init c = further_none c.args.window.now

pub gates-preserved : goal.gates-preserved
gates-preserved c =
    puts_got (gate_text c.args.plan.now c.args.word) c.args.window.now c.gates.window c.put_gate.new.window
    (meaning c.args.machine.now).core.gates c.gates.i c.in-Some.gate
    (sym c.gate.ensures ∙ c.in-Some.is) c.gates.invariant c.put_gate.ensures

pub returns-in-None : goal.returns-in-None
returns-in-None c =
    let gates = (meaning c.args.machine.now).core.gates in
    c.gates.invariant ∙ ap (λ (gs : List Gate). further c.args.window.now (flat_map (gate_text c.args.plan.now c.args.word) gs))
    (take_past gates c.gates.i (sym c.gate.ensures ∙ c.in-None.is))

pub returns : goal.returns
returns c =
    let gates = (meaning c.args.machine.now).core.gates in
    let all : length gates ≤ c.gates.i = omega (arith, c.any_machine_is_valid.ensures.valid.few_gates) in
    c.gates.invariant ∙ ap (λ (gs : List Gate). further c.args.window.now (flat_map (gate_text c.args.plan.now c.args.word) gs))
    (take_all c.gates.i gates all)
