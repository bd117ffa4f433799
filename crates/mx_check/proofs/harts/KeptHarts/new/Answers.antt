use Rattle.mx_check.proofs.HartLaws.{four_new}
use Rattle.mx_check.proofs.harts.KeptHarts.new.Goals as goal

pub returns : goal.returns
returns g c = search four_new
