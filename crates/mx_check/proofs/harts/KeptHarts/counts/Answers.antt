use Rattle.mx_check.proofs.HartLaws.{hart_read}
use Rattle.mx_check.proofs.harts.KeptHarts.counts.Goals as goal

pub returns : goal.returns
returns g c = rw (← hart_read _ _ _ _ c.index-self-hart.result c.self.view_is c.requires) c.counts.ensures
