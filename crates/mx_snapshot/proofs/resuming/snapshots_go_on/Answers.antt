use Rattle.mx_snapshot.proofs.ValidGoes.{goes-on}
use Rattle.mx_snapshot.proofs.ValidMay.{flights-fit, gates-fit, may-go, parts-sound}
use Rattle.mx_snapshot.proofs.resuming.snapshots_go_on.Goals as goal

pub returns-clause-flights : goal.returns-clause-flights
returns-clause-flights c = flights-fit

pub returns-clause-sound : goal.returns-clause-sound
returns-clause-sound c = parts-sound

pub returns-clause-gates : goal.returns-clause-gates
returns-clause-gates c = gates-fit

pub returns-clause-may : goal.returns-clause-may
returns-clause-may c = may-go

pub returns-clause-same : goal.returns-clause-same
returns-clause-same c = goes-on
