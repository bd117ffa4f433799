use Rattle.mx_check.proofs.HearLaws.{hear-keeps, heard_all, hears_own, length-hears_first}
use Rattle.std.proofs.Common.{ℕ, ◌<◌, ◌≤◌, length, ap, ◌∙◌, sym, subst}
use Rattle.mx_check.specs.Harts.{kept_at}
use Rattle.mx_check.specs.Calls.{Checks}
use Rattle.mx_check.specs.Conditions.{SameButCaches}
use Rattle.mx_check.proofs.checker.Checker.hear.Goals as goal

pub invariant_of-self : goal.invariant_of-self
invariant_of-self g c = rw c.hear.ensures (hear-keeps _ _ _ c.self.invariant (rw (← c.self.view_is) at c.requires.hart))

pub returns-clause-heard : goal.returns-clause-heard
returns-clause-heard g c = rw c.hear.ensures (heard_all _ _ _ c.self.invariant (rw (← c.self.view_is) at c.requires.hart))

pub returns-clause-own : goal.returns-clause-own
returns-clause-own g c =
    let there : c.args.hart < length c.self.inside.harts = rw (← c.self.view_is) at c.requires.hart in
    let own : SameButCaches (kept_at c.hear.new.self c.args.hart) (kept_at c.self.inside.harts c.args.hart) =
    rw c.hear.ensures (hears_own c.self.inside.harts c.args.hart there) in
    rw (← c.self.view_is) own

pub returns-clause-same_length : goal.returns-clause-same_length
returns-clause-same_length g c =
    ap length c.hear.ensures
    ∙ length-hears_first c.args.hart (length c.self.inside.harts) c.self.inside.harts
    ∙ ap (λ (x : Checks _). length x.harts) c.self.view_is

pub returns-clause-few : goal.returns-clause-few
returns-clause-few g c = subst (λ (n : ℕ). n ≤ 4) (sym (ap length c.hear.ensures
    ∙ length-hears_first c.args.hart (length c.self.inside.harts) c.self.inside.harts)) c.self.invariant.few
