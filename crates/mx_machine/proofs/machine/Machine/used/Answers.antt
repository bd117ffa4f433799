use Rattle.mx_machine.proofs.SizeLaws.{fits-checker}
use Rattle.mx_machine.proofs.machine.Machine.used.Goals as goal

pub tables-requires : goal.tables-requires
tables-requires g c = search fits-checker
