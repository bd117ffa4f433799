use Rattle.mx_check.proofs.HartLaws.{hart_written}
use Rattle.mx_check.proofs.harts.KeptHarts.answer.Goals as goal

pub returns-clause-after : goal.returns-clause-after
returns-clause-after g c = search hart_written
