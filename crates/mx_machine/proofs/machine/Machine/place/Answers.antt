use Rattle.std.proofs.Common.{◌<◌, length, sym, subst}
use Rattle.mx_model.specs.State.{Flat, hart_at}
use Rattle.mx_machine.specs.Harts.{hart_among}
use Rattle.mx_machine.specs.Readings.{IsPlaceOf, TellsPlace}
use Rattle.mx_machine.proofs.HartsAt.{length-seen}
use Rattle.mx_machine.proofs.ReadLaws.{place-told}
use Rattle.mx_machine.proofs.machine.Machine.place.Goals as goal

pub place-requires : goal.place-requires
place-requires g c =
    let m = c.self.inside.bare in
    subst (λ x. c.args.hart < length x.bare.harts) (sym c.self-inside.view_is)
    (subst (λ n. c.args.hart < n) (length-seen 0 m.harts m.parts.harts)
    (subst (λ (f : Flat). c.args.hart < length f.core.harts) (sym c.self.view_is) c.requires))

pub returns : goal.returns
returns g c =
    subst (λ (f : Flat). IsPlaceOf (hart_at f.core c.args.hart) c.place.result) c.self.view_is
    (place-told c.self.inside.bare c.args.hart c.place.result
    (subst (λ x. TellsPlace (hart_among x.bare.harts c.args.hart) c.place.result) c.self-inside.view_is c.place.ensures))
