use Rattle.mx_check.proofs.KeepLaws.{finish-keeps}
use Rattle.mx_check.proofs.checker.Checker.finish.Goals as goal

pub invariant_of-self : goal.invariant_of-self
invariant_of-self g c = rw c.finish.ensures (finish-keeps _ _ _ c.self.invariant (rw (← c.self.view_is) at c.requires.hart))
