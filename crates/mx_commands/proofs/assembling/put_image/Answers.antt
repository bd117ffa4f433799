use Rattle.mx_commands.specs.declared.status.Status.TheVariants.{Ran}
use Rattle.mx_commands.proofs.Endings.{ends_shown, ends_unshown}
use Rattle.mx_commands.proofs.assembling.put_image.Goals as goal

pub returns-in-Ok : goal.returns-in-Ok
returns-in-Ok g c = ends_shown Ran c.args.image.now c.in-Ok.ensures

pub returns-in-Err : goal.returns-in-Err
returns-in-Err g c = ends_unshown Ran c.args.image.now c.in-Err.ensures
