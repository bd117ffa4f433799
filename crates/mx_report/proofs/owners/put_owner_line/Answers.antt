use Rattle.mx_report.specs.Lines.{owner_line}
use Rattle.mx_report.proofs.owners.put_owner_line.Goals as goal

pub returns : goal.returns
unfolding owner_line
returns g c = rw (c.address.ensures, c.address-2.ensures) at c.put_pieces.ensures.passes
