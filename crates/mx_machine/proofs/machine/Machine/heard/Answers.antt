use Rattle.std.proofs.Common.{◌≡◌, ◌<◌, length, ap, sym, subst, ◌∙◌}
use Rattle.mx_check.specs.Harts.{has_heard}
use Rattle.mx_check.specs.Harts.{kept_at}
use Rattle.mx_model.specs.State.{Flat, hart_at}
use Rattle.mx_machine.specs.Readings.{was_heard}
use Rattle.mx_machine.proofs.ReadLaws.{heard-told, kept-there}
use Rattle.mx_machine.proofs.SizeLaws.{fits-checker}
use Rattle.mx_machine.proofs.machine.Machine.heard.Goals as goal

pub heard-requires : goal.heard-requires
heard-requires g c =
    let m = c.self.inside.bare in
    let fits = c.self.invariant.fits in (
      search fits-checker,
      (
        subst (λ x. c.args.hart < length x.bare.parts.harts) (sym c.self-inside.view_is)
            (kept-there m c.args.hart fits (subst (λ (f : Flat). c.args.hart < length f.core.harts) (sym c.self.view_is) c.requires.hart)),
        subst (λ x. c.args.by < length x.bare.parts.harts) (sym c.self-inside.view_is)
            (kept-there m c.args.by fits (subst (λ (f : Flat). c.args.by < length f.core.harts) (sym c.self.view_is) c.requires.by)),
      ),
    )

pub returns : goal.returns
returns g c =
    subst (λ (f : Flat). c.heard.result ≡ was_heard (hart_at f.core c.args.hart).status c.args.by) c.self.view_is
    (c.heard.ensures ∙ ap (λ x. has_heard (kept_at x.bare.parts.harts c.args.hart).flight c.args.by) c.self-inside.view_is
    ∙ heard-told c.self.inside.bare c.args.hart c.args.by c.self.invariant.fits)
