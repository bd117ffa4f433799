use Rattle.std.proofs.Common.{sym, ap, ◌∙◌}
use Rattle.std.specs.Option.{is_some}
use Rattle.mx_model.specs.Gates.{is_at}
use Rattle.mx_gates.proofs.Lists.{list_any-find}
use Rattle.mx_gates.proofs.gates.Gates.has_gate.Goals as goal

pub returns : goal.returns
returns c =
    c.is_some.ensures ∙ ap is_some c.gate.ensures ∙ sym (list_any-find (is_at c.args.domain c.args.word) c.args.self.now)
