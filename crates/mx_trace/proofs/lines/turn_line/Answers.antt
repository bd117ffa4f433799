use Rattle.mx_io.proofs.Puts.{puts_same}
use Rattle.mx_trace.proofs.LineLaws.{text_alone}
use Rattle.mx_trace.proofs.lines.turn_line.Goals as goal

pub returns : goal.returns
returns g c = puts_same (text_alone c.as_slice.ensures c.put_parts.ensures c.new-line.ensures) c.put_all.ensures
