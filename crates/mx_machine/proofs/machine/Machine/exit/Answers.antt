use Rattle.std.proofs.Common.{◌≡◌, ◌<◌, length, sym, subst}
use Rattle.mx_model.specs.State.{Flat, hart_at}
use Rattle.mx_machine.specs.Harts.{hart_among}
use Rattle.mx_machine.specs.Readings.{exit_by_progress, exit_of}
use Rattle.mx_machine.proofs.HartsAt.{length-seen}
use Rattle.mx_machine.proofs.ReadLaws.{exit-told}
use Rattle.mx_machine.proofs.machine.Machine.exit.Goals as goal

pub exit-requires : goal.exit-requires
exit-requires g c =
    let m = c.self.inside.bare in
    subst (λ x. c.args.hart < length x.bare.harts) (sym c.self-inside.view_is)
    (subst (λ n. c.args.hart < n) (length-seen 0 m.harts m.parts.harts)
    (subst (λ (f : Flat). c.args.hart < length f.core.harts) (sym c.self.view_is) c.requires))

pub returns : goal.returns
returns g c =
    subst (λ (f : Flat). c.exit.result ≡ exit_of (hart_at f.core c.args.hart).status) c.self.view_is
    (exit-told c.self.inside.bare c.args.hart c.exit.result
    (subst (λ x. c.exit.result ≡ exit_by_progress (hart_among x.bare.harts c.args.hart).progress) c.self-inside.view_is c.exit.ensures))
