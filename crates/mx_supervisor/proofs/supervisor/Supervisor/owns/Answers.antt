use Rattle.std.proofs.Common.{sym}
use Rattle.mx_supervisor.proofs.supervisor.Supervisor.owns.Goals as goal

pub returns : goal.returns
returns g c = λ rest. sym c.owns.ensures.all
