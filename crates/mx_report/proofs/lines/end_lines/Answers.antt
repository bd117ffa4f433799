use Rattle.mx_tail.proofs.PassLaws.{whole_end, whole_stop}
use Rattle.mx_report.proofs.lines.end_lines.Goals as goal

pub returns-in-Ok : goal.returns-in-Ok
returns-in-Ok g c = λ b s text e p. whole_end e (rw c.in-Ok.is at p) c.end.ensures.puts

pub returns-in-Err : goal.returns-in-Err
returns-in-Err g c = λ b s text e p. whole_stop e (rw c.in-Err.is at p)
