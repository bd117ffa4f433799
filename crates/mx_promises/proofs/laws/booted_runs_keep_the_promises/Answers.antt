use Rattle.mx_promises.proofs.BootedLaws.{booted-keep}
use Rattle.mx_promises.proofs.laws.booted_runs_keep_the_promises.Goals as goal

pub returns : goal.returns
returns c = booted-keep
