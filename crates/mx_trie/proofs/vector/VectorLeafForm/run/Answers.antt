use Rattle.std.proofs.Common.{arith}
use Rattle.mx_trie.proofs.PlainRuns.{plain-run}
use Rattle.mx_trie.proofs.vector.VectorLeafForm.run.Goals as goal

pub returns : goal.returns
returns c ps left right spill st = search (arith, plain-run)
