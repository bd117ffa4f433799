use Rattle.mx_tail.proofs.PassLaws.{passes_adds}
use Rattle.mx_tail.proofs.gathered.put_bytes.Goals as goal

pub returns-clause-passes : goal.returns-clause-passes
returns-clause-passes g c = passes_adds c.put.ensures.adds
