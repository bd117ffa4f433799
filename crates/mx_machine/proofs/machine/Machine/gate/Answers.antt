use Rattle.mx_machine.proofs.SizeLaws.{fits-supervisor}
use Rattle.mx_machine.proofs.machine.Machine.gate.Goals as goal

pub gate-requires : goal.gate-requires
gate-requires g c = search fits-supervisor
