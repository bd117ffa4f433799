use Rattle.std.proofs.Common.{rules, ◌∙◌}
use Rattle.mx_resume.proofs.Going.{all-hold, resumed-is}
use Rattle.mx_resume.proofs.building.go_on.Goals as goal

pub resume-requires : goal.resume-requires
resume-requires g c = (search rules, (search rules, all-hold c.requires.snapshot _ _ _ _ _ c.requires.from))

pub returns : goal.returns
returns g c = λ s from. c.resume.ensures ∙ resumed-is s _ _ _ _ _ from
