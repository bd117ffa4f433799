use Rattle.std.proofs.Common.{◌≡◌, length, ap, sym, subst, ◌∙◌}
use Rattle.mx_model.specs.State.{Flat, module_at}
use Rattle.mx_model.specs.Valid.{IsModule}
use Rattle.mx_machine.specs.declared.starts.StackArea.{StackArea}
use Rattle.mx_machine.specs.Held.{area_of}
use Rattle.mx_machine.specs.Made.{core_in}
use Rattle.mx_machine.proofs.HomeLaws.{module-kills}
use Rattle.mx_machine.proofs.ReadLaws.{here-in}
use Rattle.mx_machine.proofs.machine.Machine.kills.Goals as goal

pub returns : goal.returns
returns g c =
    let m = c.self.inside.bare in
    let fits = c.self.invariant.fits in
    let there : IsModule (length (core_in m).modules) c.args.domain =
    subst (λ (f : Flat). IsModule (length f.core.modules) c.args.domain) (sym c.self.view_is) c.requires in
    subst (λ (f : Flat). c.area.result.kills ≡ (module_at f.core c.args.domain).kills) c.self.view_is
    (ap (λ (a : StackArea). a.kills) c.area.ensures ∙ ap (λ x. (area_of x.bare.stacks c.args.domain).kills) c.self-inside.view_is
    ∙ sym (module-kills m c.args.domain fits (here-in m fits c.args.domain there)))
