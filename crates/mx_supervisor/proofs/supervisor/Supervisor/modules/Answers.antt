use Rattle.std.proofs.Common.{length, ap, ◌∙◌}
use Rattle.mx_supervisor.proofs.supervisor.Supervisor.modules.Goals as goal

pub returns : goal.returns
returns g c = c.modules.ensures ∙ ap (λ t. length (g.T.PermTables.maps t)) c.tables.ensures
