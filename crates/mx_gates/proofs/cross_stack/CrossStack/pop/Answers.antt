use Rattle.std.proofs.Common.{sym, ap, ◌∙◌}
use Rattle.mx_model.specs.Gates.{top}
use Rattle.mx_gates.proofs.Lists.{last-slice_get}
use Rattle.mx_gates.proofs.cross_stack.CrossStack.pop.Goals as goal

pub returns-clause-top : goal.returns-clause-top
returns-clause-top c = c.pop.ensures.value ∙ sym (last-slice_get c.self.inside.frames.items) ∙ ap top c.self.view_is
