use Rattle.std.proofs.Common.{◌<◌}
use Rattle.mx_trie.proofs.Vectors.{IsPartVector}
use Rattle.mx_trie.proofs.scan.vector_of.Given as goal

abbrev pub invariant-loop-e : goal.invariant-loop-e
invariant-loop-e g l = record {
  made : IsPartVector (g.V.View.map l.view) l.first l.part l.e l.entry;
  small : l.entry < 65536;
}
