use Rattle.mx_supervisor.proofs.Giving.{IsFilled}
use Rattle.mx_supervisor.specs.Rights.{none_else}
use Rattle.mx_supervisor.proofs.rights.none_else.Given as goal

abbrev pub invariant-loop-domain : goal.invariant-loop-domain
invariant-loop-domain l = IsFilled l.perms l.domain (none_else l.caller l.own)
