use Rattle.mx_report.specs.Lines.{tables_line}
use Rattle.mx_report.proofs.tables.put_used.Goals as goal

pub returns : goal.returns
unfolding tables_line
returns g c = rw c.kind_name.ensures at c.put_pieces.ensures.passes
