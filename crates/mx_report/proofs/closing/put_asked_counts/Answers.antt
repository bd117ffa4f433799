use Rattle.mx_tail.proofs.PassLaws.{passes_nothing}
use Rattle.mx_report.proofs.closing.put_asked_counts.Goals as goal

pub returns-else-options : goal.returns-else-options
returns-else-options g c = rw c.if-options.false (passes_nothing _ _)

pub put_counts-requires : goal.put_counts-requires
put_counts-requires g c = search

pub returns-then-options : goal.returns-then-options
returns-then-options g c = rw c.if-options.true c.put_counts.ensures
