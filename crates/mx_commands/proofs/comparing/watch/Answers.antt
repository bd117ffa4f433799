use Rattle.mx_commands.specs.declared.status.Status.TheVariants.{Ran}
use Rattle.mx_commands.proofs.Endings.{ends_reported, ends_unreported}
use Rattle.mx_commands.proofs.comparing.watch.Goals as goal

pub returns-in-Ok : goal.returns-in-Ok
returns-in-Ok g c = rw c.run_twin-end.ensures.answer at (ends_reported Ran _ c.in-Ok.ensures)

pub returns-in-Err : goal.returns-in-Err
returns-in-Err g c = rw c.run_twin-end.ensures.answer at (ends_unreported Ran _ c.in-Err.ensures)
