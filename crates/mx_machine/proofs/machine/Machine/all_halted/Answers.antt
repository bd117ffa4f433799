use Rattle.std.proofs.Common.{◌≡◌, ap, sym, subst, ◌∙◌}
use Rattle.std.specs.List.{list_all}
use Rattle.mx_model.specs.Run.{all_halted}
use Rattle.mx_model.specs.State.{Flat}
use Rattle.mx_machine.specs.declared.hart.Hart.{Hart}
use Rattle.mx_machine.specs.Harts.{is_halted}
use Rattle.mx_machine.proofs.ReadLaws.{all-halted}
use Rattle.mx_machine.proofs.machine.Machine.all_halted.Goals as goal

pub returns : goal.returns
returns g c =
    let m = c.self.inside.bare in
    subst (λ (f : Flat). c.all_halted.result ≡ all_halted f.core) c.self.view_is
    (c.all_halted.ensures ∙ ap (λ x. list_all (λ (y : Hart). is_halted y.progress) x.bare.harts) c.self-inside.view_is
    ∙ sym (all-halted 0 m.harts m.parts.harts))
