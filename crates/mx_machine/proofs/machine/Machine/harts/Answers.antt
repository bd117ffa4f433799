use Rattle.std.proofs.Common.{◌≡◌, length, sym, subst, ap, ◌∙◌}
use Rattle.mx_model.specs.State.{Flat}
use Rattle.mx_machine.proofs.HartsAt.{length-seen}
use Rattle.mx_machine.proofs.machine.Machine.harts.Goals as goal

pub returns : goal.returns
returns g c =
    let m = c.self.inside.bare in
    subst (λ (f : Flat). c.len.result ≡ length f.core.harts) c.self.view_is
    (c.len.ensures.number ∙ ap (λ x. length x.bare.harts) c.self-inside.view_is ∙ sym (length-seen 0 m.harts m.parts.harts))
