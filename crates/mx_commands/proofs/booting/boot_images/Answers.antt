use Rattle.mx_boot.specs.Boot.{boot_of}
use Rattle.mx_boot.specs.Faults.{ram_words}
use Rattle.std.proofs.Common.{◌*◌, []}
use Rattle.mx_commands.specs.Boots.{Load, after_inputs, booted}
use Rattle.mx_commands.proofs.Scheduled.{boots_on}
use Rattle.mx_commands.proofs.booting.boot_images.Goals as goal

pub returns-in-Ok : goal.returns-in-Ok
returns-in-Ok g c =
    let takes = c.in-Ok.ensures.takes in
    let side = c.args.side in
    let name = c.args.name.now in
    let plan = c.args.plan in
    let images = c.args.images.items in
    boots_on g.S.Store.gives (λ (rest : Load). after_inputs side (4 * ram_words plan) 1 plan.modules [] (λ inputs.
    booted side name (rest images inputs) plan (boot_of plan images inputs)))
    (λ (rest : Load). booted side name (rest images c.in-Ok.inputs.items) plan (boot_of plan images c.in-Ok.inputs.items)) _ _ _ _ _ _
    takes.0
    (λ rest. takes.1 (λ inputs. booted side name (rest images inputs) plan (boot_of plan images inputs))) _ c.settle_boot.ensures

pub returns-in-Err : goal.returns-in-Err
returns-in-Err g c =
    λ rest console dump. c.in-Err.ensures.takes (λ inputs. booted c.args.side c.args.name.now (rest c.args.images.items inputs) c.args.plan
    (boot_of c.args.plan c.args.images.items inputs)) console dump
