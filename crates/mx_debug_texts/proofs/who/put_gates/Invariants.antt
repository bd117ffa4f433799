use Rattle.std.proofs.Common.{◌≡◌, flat_map, take}
use Rattle.mx_any.specs.Machines.{meaning}
use Rattle.mx_debug_texts.specs.Documents.{gate_text}
use Rattle.mx_debug_texts.specs.Window.{further}
use Rattle.mx_debug_texts.proofs.who.put_gates.Given as goal

abbrev pub invariant-gates : goal.invariant-gates
invariant-gates l =
    l.window ≡ further l.initial.window (flat_map (gate_text l.plan l.word) (take l.i (meaning l.machine).core.gates))
