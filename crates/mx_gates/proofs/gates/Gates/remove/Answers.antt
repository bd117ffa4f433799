use Rattle.std.proofs.Common.{sym, ◌∙◌}
use Rattle.mx_gates.proofs.Apart.{without_none}
use Rattle.mx_gates.proofs.gates.Gates.remove.Goals as goal

pub returns-then-not-has_gate-clause-rest : goal.returns-then-not-has_gate-clause-rest
returns-then-not-has_gate-clause-rest c =
    sym (without_none c.args.domain c.args.word c.args.self.now (sym c.has_gate.ensures ∙ c.if-not-has_gate.true))
