use Rattle.std.proofs.Common.{◌∙◌}
use Rattle.std.proofs.lemmas.Bool.{ne_eqb}
use Rattle.mx_segments.proofs.PlanLaws.{differ}
use Rattle.mx_segments.proofs.plan.starts_at.Goals as goal

pub returns : goal.returns
returns c = rw (ne_eqb c.args.first 0 c.if-first-eq0.false, ← c.perm_in.ensures) (c.ne.ensures ∙ differ _ _)
