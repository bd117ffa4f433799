use Rattle.std.proofs.Common.{◌*◌, [], Ok}
use Rattle.mx_boot.specs.Boot.{boot_of}
use Rattle.mx_boot.specs.Faults.{ram_words}
use Rattle.mx_commands.specs.Boots.{Load, after_inputs, loaded, booted}
use Rattle.mx_commands.proofs.Scheduled.{boots_on}
use Rattle.mx_commands.proofs.booting.boot_plan.Goals as goal

pub returns-in-Ok : goal.returns-in-Ok
returns-in-Ok g c =
    let takes = c.in-Ok.ensures in
    let side = c.args.side in
    let name = c.args.name.now in
    let plan = c.args.plan in
    let inputs_of = λ (rest : Load) (images : _). after_inputs side (4 * ram_words plan) 1 plan.modules [] (λ inputs.
    booted side name (rest images inputs) plan (boot_of plan images inputs)) in
    boots_on g.S.Store.gives (λ (rest : Load). loaded side name rest (Ok plan)) (λ (rest : Load). inputs_of rest c.in-Ok.images.items) _ _ _
    _ _ _ takes.0
    (λ rest. takes.1 (inputs_of rest)) _ c.boot_images.ensures

pub returns-in-Err : goal.returns-in-Err
returns-in-Err g c =
    let plan = c.args.plan in
    λ rest console dump. c.in-Err.ensures
    (λ images. after_inputs c.args.side (4 * ram_words plan) 1 plan.modules [] (λ inputs.
    booted c.args.side c.args.name.now (rest images inputs) plan (boot_of plan images inputs))) console dump
