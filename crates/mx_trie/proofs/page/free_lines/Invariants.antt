use Rattle.mx_trie.specs.Steps.{AreLinesFreed}
use Rattle.mx_trie.proofs.page.free_lines.Given as goal

abbrev pub invariant-loop-place : goal.invariant-loop-place
invariant-loop-place g l = AreLinesFreed g.L.LeafForm.kind l.fn.leaf l.fn.spill l.leaf l.spill l.frame l.place
