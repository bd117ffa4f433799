use Rattle.mx_check.proofs.HartLaws.{hart_written}
use Rattle.mx_check.proofs.harts.KeptHarts.drop_overlap.Goals as goal

pub returns : goal.returns
returns g c = search hart_written
