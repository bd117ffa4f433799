use Rattle.std.proofs.Common.{rules}
use Rattle.mx_resume.proofs.Going.{parts-hold}
use Rattle.mx_resume.proofs.building.join_on.Goals as goal

pub new-requires : goal.new-requires
new-requires g c = (search rules, (search rules, parts-hold _ c.requires))
