use Rattle.std.proofs.Common.{lit<}
use Rattle.mx_check.proofs.StartLaws.{new_may}
use Rattle.check_speed.proofs.hits.fresh.Goals as goal

pub returns-clause-may : goal.returns-clause-may
returns-clause-may c = rw c.new.ensures (new_may 1 0 1 (lit< tt))
