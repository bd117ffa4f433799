use Rattle.mx_audit.proofs.laws.live_by_rounds.Goals as goal
use Rattle.mx_audit.proofs.LiveLaws.{live-rounds}

pub returns : goal.returns
returns c = live-rounds
