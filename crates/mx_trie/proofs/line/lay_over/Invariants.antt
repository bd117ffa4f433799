use Rattle.mx_trie.specs.Laying.{IsLaidOver}
use Rattle.mx_trie.proofs.line.lay_over.Given as goal

abbrev pub invariant-loop-place : goal.invariant-loop-place
invariant-loop-place l = IsLaidOver l.old l.new l.from l.place l.perm
