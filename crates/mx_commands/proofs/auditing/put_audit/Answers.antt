use Rattle.mx_commands.specs.declared.status.Status.TheVariants.{Ran}
use Rattle.mx_commands.proofs.Endings.{ends_reported, ends_unreported}
use Rattle.mx_commands.proofs.auditing.put_audit.Goals as goal

pub returns-in-Ok : goal.returns-in-Ok
returns-in-Ok g c = ends_reported Ran _ c.in-Ok.ensures

pub returns-in-Err : goal.returns-in-Err
returns-in-Err g c = ends_unreported Ran _ c.in-Err.ensures
