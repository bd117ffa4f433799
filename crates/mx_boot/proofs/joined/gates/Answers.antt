use Rattle.std.proofs.Common.{◌∙◌, ap, get_or}
use Rattle.mx_model.specs.declared.values.Gate.{Gate}
use Rattle.mx_model.specs.Gates.{with_gate}
use Rattle.mx_boot.proofs.Gating.{gate-next}
use Rattle.mx_boot.proofs.joined.gates.Goals as goal

-- what is read after the last gate
abbrev none : Gate
none = record { domain = 0; word = 0; target = 0 }

pub gates-preserved : goal.gates-preserved
gates-preserved c =
    c.in-Ok.ensures.ok ∙ ap (with_gate (get_or c.args.all.now c.gates.gate-index none)) c.gates.invariant
    ∙ gate-next c.args.all.now c.requires.single c.gates.gate-index none c.gates-test.true
