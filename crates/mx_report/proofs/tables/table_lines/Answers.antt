use Rattle.mx_report.proofs.tables.table_lines.Goals as goal

pub returns : goal.returns
returns g c = c.end_lines.ensures _ _ _ c.new-tail.ensures c.put_tables-put.ensures

pub put_tables-put-requires : goal.put_tables-put-requires
put_tables-put-requires g c = search
