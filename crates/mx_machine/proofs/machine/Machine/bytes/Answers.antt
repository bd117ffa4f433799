use Rattle.std.proofs.Common.{◌≡◌, ◌+◌, ◌*◌, ◌≤◌, length, sym, subst, ap, ◌∙◌}
use Rattle.std.specs.Prelude.{slice_range}
use Rattle.mx_model.specs.State.{Flat}
use Rattle.mx_machine.proofs.machine.Machine.bytes.Goals as goal

pub bytes-requires : goal.bytes-requires
bytes-requires g c =
    let fits = c.self.invariant.fits in
    subst (λ x. c.args.first + c.args.count ≤ length x.bare.parts.ram) (sym c.self-inside.view_is)
    (subst (λ n. c.args.first + c.args.count ≤ n) (sym fits.sound.ram)
    (subst (λ (f : Flat). c.args.first + c.args.count ≤ 4 * f.core.size) (sym c.self.view_is) c.requires))

pub returns : goal.returns
returns g c =
    subst (λ (f : Flat). c.bytes.result.now ≡ slice_range f.core.ram c.args.first (c.args.first + c.args.count)) c.self.view_is
    (c.bytes.ensures ∙ ap (λ x. slice_range x.bare.parts.ram c.args.first (c.args.first + c.args.count)) c.self-inside.view_is)
