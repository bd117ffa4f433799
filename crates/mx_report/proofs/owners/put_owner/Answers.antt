use Rattle.mx_tail.proofs.PassLaws.{passes_nothing}
use Rattle.mx_report.proofs.owners.put_owner.Goals as goal

pub returns-then-owner-eq0 : goal.returns-then-owner-eq0
returns-then-owner-eq0 g c = rw c.if-owner-eq0.true (passes_nothing _ _)
