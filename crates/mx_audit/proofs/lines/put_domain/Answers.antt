use Rattle.mx_tail.proofs.PassLaws.{passes_nothing}
use Rattle.mx_audit.proofs.lines.put_domain.Goals as goal

pub returns-else-live : goal.returns-else-live
returns-else-live g c = rw c.if-live.false (passes_nothing _ _)
