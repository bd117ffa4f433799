use Rattle.std.proofs.Common.{◌<◌, List, length, sym, ap, subst, ◌∙◌}
use Rattle.mx_model.specs.declared.values.Gate.{Gate}
use Rattle.mx_model.specs.Gates.{gate_at}
use Rattle.mx_gates.proofs.Apart.{without_room, gate_at-without}
use Rattle.mx_gates.proofs.gates.Gates.add.Goals as goal

pub append-requires-clause-room : goal.append-requires-clause-room
append-requires-clause-room c =
    let g = c.args.gate in
    subst (λ (xs : List Gate). length xs < 256) (sym c.remove.ensures.rest)
    (without_room g.domain g.word c.args.self.now c.is_full_for.ensures.bounded (sym c.is_full_for.ensures.full
    ∙ c.if-is_full_for.false))

pub append-requires-clause-none : goal.append-requires-clause-none
append-requires-clause-none c =
    let g = c.args.gate in
    ap (λ (xs : List Gate). gate_at xs g.domain g.word) c.remove.ensures.rest ∙ gate_at-without g.domain g.word c.args.self.now
