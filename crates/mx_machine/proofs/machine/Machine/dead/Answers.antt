use Rattle.std.proofs.Common.{◌≡◌, length, sym, subst, ◌∙◌}
use Rattle.mx_model.specs.State.{Flat, module_at}
use Rattle.mx_model.specs.Valid.{IsModule}
use Rattle.mx_machine.specs.Made.{core_in}
use Rattle.mx_machine.proofs.HomeLaws.{module-dead}
use Rattle.mx_machine.proofs.ReadLaws.{here-in}
use Rattle.mx_machine.proofs.SizeLaws.{fits-inside}
use Rattle.mx_machine.proofs.machine.Machine.dead.Goals as goal

pub is_dead-requires : goal.is_dead-requires
is_dead-requires g c = search fits-inside

pub returns : goal.returns
returns g c =
    let m = c.self.inside.bare in
    let fits = c.self.invariant.fits in
    let there : IsModule (length (core_in m).modules) c.args.domain =
    subst (λ (f : Flat). IsModule (length f.core.modules) c.args.domain) (sym c.self.view_is) c.requires in
    subst (λ (f : Flat). c.is_dead.result ≡ (module_at f.core c.args.domain).dead) c.self.view_is
    (c.is_dead.ensures ∙ sym (module-dead m c.args.domain fits (here-in m fits c.args.domain there)))
