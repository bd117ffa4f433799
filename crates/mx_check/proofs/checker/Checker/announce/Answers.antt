use Rattle.mx_check.proofs.KeepLaws.{announce-keeps}
use Rattle.mx_check.proofs.checker.Checker.announce.Goals as goal

pub invariant_of-self : goal.invariant_of-self
invariant_of-self g c =
    rw c.announce.ensures (announce-keeps _ _ _ c.self.invariant (rw (← c.self.view_is) at c.requires.may.hart) _ _
    (rw (← c.self.view_is) at c.requires.may.free))
