use Rattle.mx_supervisor.proofs.Told.{told-heap}
use Rattle.mx_supervisor.proofs.heaps.told_in.Goals as goal

pub returns : goal.returns
returns c = rw c.in-Some.is (told-heap c.in-Some.heap c.area.ensures.heap)
