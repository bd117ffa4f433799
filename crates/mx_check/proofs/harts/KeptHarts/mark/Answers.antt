use Rattle.mx_check.proofs.HartLaws.{hart_written}
use Rattle.mx_check.proofs.harts.KeptHarts.mark.Goals as goal

pub returns : goal.returns
returns g c = search hart_written
