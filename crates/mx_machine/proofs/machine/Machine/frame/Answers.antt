use Rattle.std.proofs.Common.{◌≡◌, ◌<◌, length, ap, sym, subst, ◌∙◌}
use Rattle.std.specs.Prelude.{slice_get}
use Rattle.mx_model.specs.State.{Flat, hart_at}
use Rattle.mx_model.specs.State.{Hart as Seen}
use Rattle.mx_machine.specs.Harts.{hart_among}
use Rattle.mx_machine.proofs.HartsAt.{hart-in, length-seen}
use Rattle.mx_machine.proofs.machine.Machine.frame.Goals as goal

pub frame-requires : goal.frame-requires
frame-requires g c =
    let m = c.self.inside.bare in
    subst (λ x. c.args.hart < length x.bare.harts) (sym c.self-inside.view_is)
    (subst (λ n. c.args.hart < n) (length-seen 0 m.harts m.parts.harts)
    (subst (λ (f : Flat). c.args.hart < length f.core.harts) (sym c.self.view_is) c.requires))

pub returns : goal.returns
returns g c =
    subst (λ (f : Flat). c.frame.result ≡ slice_get (hart_at f.core c.args.hart).frames c.args.i) c.self.view_is
    (c.frame.ensures ∙ ap (λ x. slice_get (hart_among x.bare.harts c.args.hart).frames c.args.i) c.self-inside.view_is
    ∙ sym (ap (λ (y : Seen). slice_get y.frames c.args.i) (hart-in c.self.inside.bare c.args.hart)))
