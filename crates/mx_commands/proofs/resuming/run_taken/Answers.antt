use Rattle.mx_commands.proofs.resuming.run_taken.Goals as goal

pub returns : goal.returns
returns g c = c.run_from-status.ensures
