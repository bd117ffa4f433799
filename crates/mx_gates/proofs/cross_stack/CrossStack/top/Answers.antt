use Rattle.std.proofs.Common.{sym, ap, ◌∙◌}
use Rattle.mx_model.specs.Gates.{top}
use Rattle.mx_gates.proofs.Lists.{last-slice_get}
use Rattle.mx_gates.proofs.cross_stack.CrossStack.top.Goals as goal

pub returns : goal.returns
returns c =
    c.copied.ensures ∙ c.last.ensures.value ∙ sym (last-slice_get c.as_slice.result.now)
    ∙ ap top (c.as_slice.ensures.value ∙ c.self.view_is)
