use Rattle.mx_report.proofs.lines.end_line.Goals as goal

pub returns : goal.returns
returns g c = c.end_lines.ensures _ _ _ c.new-tail.ensures c.put_end-put.ensures.passes
