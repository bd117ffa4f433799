use Rattle.mx_boot.proofs.Started.{IsSoFar}
use Rattle.mx_boot.proofs.starts.add_starts.Given as goal

abbrev pub invariant-harts : goal.invariant-harts
invariant-harts l = IsSoFar l.plan l.images l.h l.fn.starts.items l.starts.items
