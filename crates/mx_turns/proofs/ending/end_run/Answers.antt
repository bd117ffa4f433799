use Rattle.mx_turns.proofs.Sinking.{breaks_of, put_of, put_or}
use Rattle.mx_turns.proofs.ending.end_run.Goals as goal

pub returns-in-Ok-put_closing_lines : goal.returns-in-Ok-put_closing_lines
returns-in-Ok-put_closing_lines g c = (put_of c.in-Ok.ensures.puts, put_of c.in-Ok-put_closing_lines.ensures)

pub returns-in-Err-put_closing_lines : goal.returns-in-Err-put_closing_lines
returns-in-Err-put_closing_lines g c = (put_of c.in-Ok.ensures.puts, breaks_of c.in-Err-put_closing_lines.ensures)

pub returns-in-Err : goal.returns-in-Err
returns-in-Err g c = (breaks_of c.in-Err.ensures.puts, put_or c.end-in-Err.ensures.puts)
