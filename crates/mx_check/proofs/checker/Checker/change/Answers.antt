use Rattle.mx_check.specs.Conditions.{MayChange}
use Rattle.mx_check.proofs.ChangeLaws.{change-keeps-ready}
use Rattle.mx_check.proofs.checker.Checker.change.Goals as goal

pub invariant_of-self : goal.invariant_of-self
invariant_of-self g c =
    let old = c.self.inside in
    let may : MayChange c.args.hart c.args.change.now old.harts = rw (← c.self.view_is) at c.requires.may in
    rw c.apply.ensures.changed (change-keeps-ready (g.T.PermTables.maps old.tables) old.harts c.args.hart c.args.change.now c.self.invariant
    may.ready may.inside)
