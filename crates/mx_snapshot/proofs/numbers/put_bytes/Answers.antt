use Rattle.std.proofs.Common.{arith}
use Rattle.mx_tail.proofs.PassLaws.{passes_adds}
use Rattle.mx_snapshot.proofs.numbers.put_bytes.Goals as goal

pub returns : goal.returns
returns g c = grind (arith, passes_adds)
