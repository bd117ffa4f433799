use Rattle.std.proofs.Common.{◌≡◌, length, ap, subst, ◌∙◌}
use Rattle.mx_model.specs.State.{Flat}
use Rattle.mx_machine.proofs.ReadLaws.{modules-in}
use Rattle.mx_machine.proofs.SizeLaws.{fits-checker}
use Rattle.mx_machine.proofs.machine.Machine.modules.Goals as goal

pub tables-requires : goal.tables-requires
tables-requires g c = search fits-checker

pub returns : goal.returns
returns g c =
    subst (λ (f : Flat). c.modules.result ≡ length f.core.modules) c.self.view_is
    (c.modules.ensures ∙ ap (λ t. length (g.T.PermTables.maps t)) c.tables.ensures
    ∙ ap (λ x. length x.bare.parts.maps) c.self-inside.view_is
    ∙ modules-in c.self.inside.bare c.self.invariant.fits)
