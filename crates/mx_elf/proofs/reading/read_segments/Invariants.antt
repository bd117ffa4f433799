use Rattle.mx_elf.proofs.Loading.{IsSoFar}
use Rattle.mx_elf.proofs.reading.read_segments.Given as goal

abbrev pub invariant-headers : goal.invariant-headers
invariant-headers l = IsSoFar l.bytes l.first l.count l.k l.items.items
