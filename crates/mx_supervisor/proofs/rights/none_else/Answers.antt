use Rattle.mx_supervisor.specs.Rights.{none_else}
use Rattle.mx_supervisor.proofs.Giving.{filled-start}
use Rattle.mx_supervisor.proofs.rights.none_else.Goals as goal

pub loop-domain-init : goal.loop-domain-init
loop-domain-init c = filled-start (none_else c.args.caller c.args.own)
