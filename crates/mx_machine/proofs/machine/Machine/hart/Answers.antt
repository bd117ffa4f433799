use Rattle.std.proofs.Common.{◌<◌, length, sym, subst}
use Rattle.mx_model.specs.State.{Flat, hart_at}
use Rattle.mx_machine.specs.Harts.{hart_among}
use Rattle.mx_machine.specs.Readings.{IsViewOf, TellsHart}
use Rattle.mx_machine.proofs.HartsAt.{length-seen}
use Rattle.mx_machine.proofs.ReadLaws.{view-told}
use Rattle.mx_machine.proofs.machine.Machine.hart.Goals as goal

pub view-requires : goal.view-requires
view-requires g c =
    let m = c.self.inside.bare in
    subst (λ x. c.args.hart < length x.bare.harts) (sym c.self-inside.view_is)
    (subst (λ n. c.args.hart < n) (length-seen 0 m.harts m.parts.harts)
    (subst (λ (f : Flat). c.args.hart < length f.core.harts) (sym c.self.view_is) c.requires))

pub returns : goal.returns
returns g c =
    subst (λ (f : Flat). IsViewOf (hart_at f.core c.args.hart) c.view.result) c.self.view_is
    (view-told c.self.inside.bare c.args.hart c.view.result
    (subst (λ x. TellsHart (hart_among x.bare.harts c.args.hart) c.view.result) c.self-inside.view_is c.view.ensures))
