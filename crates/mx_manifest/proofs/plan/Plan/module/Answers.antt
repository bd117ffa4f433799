use Rattle.std.proofs.Common.{◌≡◌, get_or, refl, subst}
use Rattle.std.proofs.lemmas.Option.{slice_get_read}
use Rattle.mx_manifest.specs.InRange.{IsInRange}
use Rattle.mx_manifest.specs.Plan.{Said}
use Rattle.mx_manifest.proofs.plan.Plan.module.Goals as goal

pub returns-clause-range : goal.returns-clause-range
returns-clause-range c =
    let here = c.index.result.now in
    let at : here ≡ get_or c.args.self.now.modules c.args.i here =
    subst (λ (p : Said). here ≡ get_or p.modules c.args.i here) c.self.view_is c.index.ensures in
    (subst IsInRange c.self.view_is c.self.invariant).modules c.args.i here (slice_get_read _ _ c.args.i here refl c.requires at)
