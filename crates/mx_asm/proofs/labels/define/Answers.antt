use Rattle.std.proofs.Common.{◌∙◌, ap, sym, map}
use Rattle.mx_asm.proofs.LabelLaws.{with_name-new}
use Rattle.mx_asm.specs.LabelViews.{entry_view}
use Rattle.mx_asm.proofs.labels.define.Goals as goal

pub returns : goal.returns
returns c =
    rw c.in-Some.is
    (ap (map entry_view) c.in_ok-insert.ensures.entries
    ∙ with_name-new c.in-Some.name (record { address = c.args.address; line = c.args.line }) c.args.labels.now.entries c.definition.result
    c.definition.ensures (sym c.is_some.ensures ∙ c.if-is_some.false))
