use Rattle.mx_supervisor.proofs.supervisor.Supervisor.is_secret.Goals as goal

pub is_foreign-requires : goal.is_foreign-requires
is_foreign-requires g c = (assumption c, (c.requires.sound, c.requires.inside))
