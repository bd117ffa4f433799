use Rattle.mx_io.proofs.Puts.{puts_same}
use Rattle.mx_trace.proofs.LineLaws.{text_alone}
use Rattle.mx_trace.proofs.text.disassemble.Goals as goal

pub returns : goal.returns
returns g c = puts_same (text_alone c.as_slice.ensures c.put_inst.ensures.text c.new-line.ensures) c.put_all.ensures
