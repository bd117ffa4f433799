use Rattle.mx_audit.proofs.laws.live_never_grows.Goals as goal
use Rattle.mx_audit.proofs.AuditRuns.{live-run}

pub returns : goal.returns
returns c = live-run
