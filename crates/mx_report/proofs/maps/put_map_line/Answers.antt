use Rattle.mx_report.specs.Lines.{map_line}
use Rattle.mx_report.proofs.maps.put_map_line.Goals as goal

pub returns : goal.returns
unfolding map_line
returns g c = rw (c.address.ensures, c.address-2.ensures, c.permission_name.ensures) at c.put_pieces.ensures.passes
