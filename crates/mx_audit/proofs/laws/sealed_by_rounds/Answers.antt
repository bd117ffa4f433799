use Rattle.mx_audit.proofs.laws.sealed_by_rounds.Goals as goal
use Rattle.mx_audit.proofs.LiveLaws.{sealed-rounds}

pub returns : goal.returns
returns c = sealed-rounds
