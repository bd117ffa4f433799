use Rattle.std.proofs.Common.{refl, arith}
use Rattle.mx_resume.proofs.owners.give.Goals as goal

pub unreachable-requires : goal.unreachable-requires
unreachable-requires c = let full = c.in-Err.ensures.full.0 refl in omega (arith, full, c.requires.few)
