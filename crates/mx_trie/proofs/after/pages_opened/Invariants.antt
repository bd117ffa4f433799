use Rattle.mx_trie.specs.Walk.{has_leaf}
use Rattle.mx_trie.proofs.Counted.{IsCountedTo}
use Rattle.mx_trie.proofs.after.pages_opened.Given as goal

abbrev pub invariant-loop-page : goal.invariant-loop-page
invariant-loop-page l = IsCountedTo l.from l.page l.to l.count (has_leaf l.upper l.root)
