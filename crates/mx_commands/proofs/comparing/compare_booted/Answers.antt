use Rattle.mx_commands.proofs.comparing.compare_booted.Goals as goal

pub returns : goal.returns
returns g c = c.compare_plans-status.ensures
