use Rattle.mx_report.specs.Lines.{shown_line}
use Rattle.mx_report.proofs.tables.put_shown.Goals as goal

pub returns : goal.returns
unfolding shown_line
returns g c = rw (c.level_name.ensures, c.address.ensures) at c.put_pieces.ensures.passes
