use Rattle.mx_commands.proofs.Endings.{ends_reported, ends_unreported}
use Rattle.mx_commands.proofs.refusal.refuse.Goals as goal

pub returns-in-Ok : goal.returns-in-Ok
returns-in-Ok g c = ends_reported c.args.status _ c.in-Ok.ensures

pub returns-in-Err : goal.returns-in-Err
returns-in-Err g c = ends_unreported c.args.status _ c.in-Err.ensures
