use Rattle.mx_check.proofs.HitLaws.{hits-keep}
use Rattle.mx_check.proofs.checker.Checker.count_fetches.Goals as goal

pub invariant_of-self : goal.invariant_of-self
invariant_of-self g c =
    rw c.hit_all.ensures (hits-keep _ c.args.hart c.args.domain c.args.fetches _ c.self.invariant (rw (← c.self.view_is) at c.requires.hart)
    (rw (← c.self.view_is) at c.requires.same_domain))
