use Rattle.std.proofs.Common.{◌≡◌, ◌*◌, ◌<◌, length, sym, subst, ap, ◌∙◌}
use Rattle.std.specs.Prelude.{slice_index}
use Rattle.mx_model.specs.State.{Flat}
use Rattle.mx_machine.proofs.machine.Machine.byte.Goals as goal

pub byte-requires : goal.byte-requires
byte-requires g c =
    let fits = c.self.invariant.fits in
    subst (λ x. c.args.at < length x.bare.parts.ram) (sym c.self-inside.view_is)
    (subst (λ n. c.args.at < n) (sym fits.sound.ram) (subst (λ (f : Flat). c.args.at < 4 * f.core.size) (sym c.self.view_is) c.requires))

pub returns : goal.returns
returns g c =
    subst (λ (f : Flat). c.byte.result ≡ slice_index f.core.ram c.args.at) c.self.view_is
    (c.byte.ensures ∙ ap (λ x. slice_index x.bare.parts.ram c.args.at) c.self-inside.view_is)
