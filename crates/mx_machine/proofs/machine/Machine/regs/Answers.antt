use Rattle.std.proofs.Common.{◌≡◌, ◌<◌, length, sym, subst}
use Rattle.mx_model.specs.State.{Flat, hart_at}
use Rattle.mx_machine.specs.Harts.{hart_among}
use Rattle.mx_machine.proofs.HartsAt.{length-seen}
use Rattle.mx_machine.proofs.ReadLaws.{regs-told}
use Rattle.mx_machine.proofs.machine.Machine.regs.Goals as goal

pub regs-requires : goal.regs-requires
regs-requires g c =
    let m = c.self.inside.bare in
    subst (λ x. c.args.hart < length x.bare.harts) (sym c.self-inside.view_is)
    (subst (λ n. c.args.hart < n) (length-seen 0 m.harts m.parts.harts)
    (subst (λ (f : Flat). c.args.hart < length f.core.harts) (sym c.self.view_is) c.requires))

pub returns : goal.returns
returns g c =
    subst (λ (f : Flat). c.regs.result.now ≡ (hart_at f.core c.args.hart).regs) c.self.view_is
    (regs-told c.self.inside.bare c.args.hart c.regs.result.now
    (subst (λ x. c.regs.result.now ≡ (hart_among x.bare.harts c.args.hart).regs) c.self-inside.view_is c.regs.ensures))
