use Rattle.std.proofs.Common.{◌∙◌, ap, option_map}
use Rattle.mx_asm.proofs.LabelLaws.{lookup-labels}
use Rattle.mx_asm.specs.LabelViews.{definition_view}
use Rattle.mx_asm.proofs.labels.definition.Goals as goal

pub returns : goal.returns
returns c =
    ap (option_map (definition_view c.args.name.now)) (c.copied.ensures ∙ c.get.ensures.value)
    ∙ lookup-labels c.args.name.now c.args.labels.now.entries
