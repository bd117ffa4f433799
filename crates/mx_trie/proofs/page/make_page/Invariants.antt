use Rattle.mx_trie.specs.Steps.{IsPageMade}
use Rattle.mx_trie.proofs.page.make_page.Given as goal

abbrev pub invariant-loop-line : goal.invariant-loop-line
invariant-loop-line g l = IsPageMade g.L.LeafForm.kind l.words l.fn.leaf l.leaf l.outer l.page l.entry l.frame l.line
