use Rattle.mx_turns.proofs.Sinking.{breaks_of, put_of, put_or}
use Rattle.mx_turns.proofs.tracing.end_trace.Goals as goal

pub returns-in-Ok-put_end_line : goal.returns-in-Ok-put_end_line
returns-in-Ok-put_end_line g c = (put_of c.in-Ok.ensures.puts, put_of c.in-Ok-put_end_line.ensures)

pub returns-in-Err-put_end_line : goal.returns-in-Err-put_end_line
returns-in-Err-put_end_line g c = (put_of c.in-Ok.ensures.puts, breaks_of c.in-Err-put_end_line.ensures)

pub returns-in-Err : goal.returns-in-Err
returns-in-Err g c = (breaks_of c.in-Err.ensures.puts, put_or c.end-in-Err.ensures.puts)
