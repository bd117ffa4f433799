use Rattle.std.proofs.Common.{ap, ◌∙◌}
use Rattle.mx_machine.proofs.SizeLaws.{fits-checker}
use Rattle.mx_model.specs.State.{Flat}
use Rattle.mx_machine.proofs.machine.Machine.words.Goals as goal

pub tables-requires : goal.tables-requires
tables-requires g c = search fits-checker

pub returns : goal.returns
returns g c =
    c.words.ensures ∙ ap (λ t. g.T.PermTables.size t) c.tables.ensures
    ∙ ap (λ x. x.bare.parts.size) c.self-inside.view_is ∙ ap (λ (f : Flat). f.core.size) c.self.view_is
