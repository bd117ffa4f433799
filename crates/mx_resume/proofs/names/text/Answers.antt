use Rattle.mx_resume.proofs.NameText.{name_is_text}
use Rattle.mx_resume.proofs.names.text.Goals as goal

pub unreachable-requires : goal.unreachable-requires
unreachable-requires c = c.in_default.ensures.cases.0 (name_is_text c.args.name.now c.requires)
