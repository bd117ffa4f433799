use Rattle.mx_tail.proofs.PassLaws.{passes_nothing}
use Rattle.mx_report.proofs.maps.put_map.Goals as goal

pub returns-in-None : goal.returns-in-None
returns-in-None g c = rw c.in-None.is (passes_nothing _ _)
