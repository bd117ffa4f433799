use Rattle.mx_twin.specs.Lines.{twin_line}
use Rattle.mx_twin.proofs.lines.put_twin.Goals as goal

pub returns-in-Agreed : goal.returns-in-Agreed
unfolding twin_line
returns-in-Agreed g c = rw c.in-Agreed.is c.put_pieces.ensures.passes

pub returns-in-Ended : goal.returns-in-Ended
unfolding twin_line
returns-in-Ended g c = rw c.in-Ended.is (rw c.kind_name.ensures at c.put_pieces-in-Ended.ensures.passes)
