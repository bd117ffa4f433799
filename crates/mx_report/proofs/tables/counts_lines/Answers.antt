use Rattle.mx_report.proofs.tables.counts_lines.Goals as goal

pub returns : goal.returns
returns g c = c.end_lines.ensures _ _ _ c.new-tail.ensures c.put_counts-put.ensures

pub put_counts-put-requires : goal.put_counts-put-requires
put_counts-put-requires g c = search
