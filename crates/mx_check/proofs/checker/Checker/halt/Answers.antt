use Rattle.mx_check.proofs.KeepLaws.{halt-keeps}
use Rattle.mx_check.proofs.checker.Checker.halt.Goals as goal

pub invariant_of-self : goal.invariant_of-self
invariant_of-self g c = rw c.halt.ensures (halt-keeps _ _ _ c.self.invariant (rw (← c.self.view_is) at c.requires.hart))
