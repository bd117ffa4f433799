use Rattle.mx_check.proofs.KeepLaws.{leave-keeps}
use Rattle.mx_check.proofs.checker.Checker.leave_domain.Goals as goal

pub invariant_of-self : goal.invariant_of-self
invariant_of-self g c = rw c.leave.ensures (leave-keeps _ _ _ c.self.invariant (rw (← c.self.view_is) at c.requires))
