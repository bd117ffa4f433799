use Rattle.mx_trie.specs.Walk.{has_mid}
use Rattle.mx_trie.proofs.Counted.{IsCountedTo}
use Rattle.mx_trie.proofs.after.regions_opened.Given as goal

abbrev pub invariant-loop-region : goal.invariant-loop-region
invariant-loop-region l = IsCountedTo l.from l.region l.to l.count (has_mid l.upper l.root)
