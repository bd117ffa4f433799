use Rattle.std.proofs.Common.{◌∙◌, ◌≤◌, ◌++◌, ap, length, arith}
use Rattle.std.specs.List.{flat_map}
use Rattle.std.proofs.lemmas.List.{take_all}
use Rattle.mx_boot.specs.Areas.{homes}
use Rattle.mx_boot.specs.Placed.{owned_areas}
use Rattle.mx_boot.specs.Seen.{seen}
use Rattle.mx_boot.proofs.Homes.{length-homes}
use Rattle.mx_boot.proofs.Rows.{grown_by_some}
use Rattle.mx_boot.proofs.owners.owned.Goals as goal

pub modules-preserved : goal.modules-preserved
modules-preserved c =
    let h = seen c.home_at.result in
    grown_by_some (owned_areas (length c.args.plan.now.harts)) (homes c.args.plan.now c.args.images.now) c.modules.i h c.modules.all.items
    c.add_owned.new.areas.items
    c.home_at.ensures.home c.modules.invariant (c.in_ok-add_owned.ensures
    ∙ ap (λ n. c.modules.all.items ++ owned_areas n h) c.harts.ensures.value)

pub returns : goal.returns
returns c =
    let all = homes c.args.plan.now c.args.images.now in
    let past : length all ≤ c.modules.i = omega (arith, length-homes c.args.plan.now c.args.images.now, c.modules-i-end.ensures.value) in
    c.modules.invariant ∙ ap (flat_map (owned_areas (length c.args.plan.now.harts))) (take_all c.modules.i all past)
