use Rattle.std.proofs.Common.{◌∙◌, ◌≤◌, sym, arith, length}
use Rattle.mx_boot.specs.Areas.{homes}
use Rattle.mx_boot.specs.Seen.{seen}
use Rattle.mx_boot.specs.Faults.{image_rows}
use Rattle.mx_boot.proofs.Homes.{length-homes}
use Rattle.mx_boot.proofs.Rows.{first_here, first_next, first_end}
use Rattle.mx_boot.proofs.files.images_fault.Goals as goal

pub returns-in-Some : goal.returns-in-Some
returns-in-Some c =
    let all = homes c.args.plan.now c.args.images.now in
    sym (sym c.loop-i.invariant ∙ first_here image_rows all c.loop-i.i (seen c.home_at.result) c.in-Some.fault c.home_at.ensures.home
    (sym c.in-Some.ensures))

pub loop-i-preserved : goal.loop-i-preserved
loop-i-preserved c =
    let all = homes c.args.plan.now c.args.images.now in
    first_next image_rows all c.loop-i.i (seen c.home_at.result) c.home_at.ensures.home (sym c.image_fault.ensures ∙ c.in_default.is)
    ∙ c.loop-i.invariant

pub returns : goal.returns
returns c =
    let all = homes c.args.plan.now c.args.images.now in
    let past : length all ≤ c.loop-i.i = omega (arith, length-homes c.args.plan.now c.args.images.now, c.modules-i-end.ensures.value) in
    sym (sym c.loop-i.invariant ∙ first_end image_rows all c.loop-i.i past)
