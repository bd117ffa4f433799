use Rattle.mx_debug_texts.proofs.RightLaws.{is_other, is_same}
use Rattle.mx_debug_texts.proofs.who.put_gate_here.Goals as goal

pub returns-then-gate : goal.returns-then-gate
returns-then-gate c =
    rw (is_same c.args.gate.now.domain c.args.gate.now.target c.if-gate.true) (rw c.name_of.ensures at c.put_pieces.ensures)

pub returns-else-gate : goal.returns-else-gate
returns-else-gate c =
    rw (is_other c.args.gate.now.domain c.args.gate.now.target c.if-gate.false)
    (rw (c.name_of-else-gate.ensures, c.name_of-else-gate-2.ensures) at c.put_pieces-else-gate.ensures)
