use Rattle.std.proofs.Common.{ap, ◌∙◌}
use Rattle.mx_model.specs.State.{Flat}
use Rattle.mx_machine.proofs.machine.Machine.steps.Goals as goal

pub returns : goal.returns
returns g c = ap (λ x. x.bare.steps) c.self-inside.view_is ∙ ap (λ (f : Flat). f.core.turns) c.self.view_is
