use Rattle.mx_trie.specs.Built.{AreLinesBuilt}
use Rattle.mx_trie.proofs.build.build_lines.Given as goal

abbrev pub invariant-loop-line : goal.invariant-loop-line
invariant-loop-line g l =
    AreLinesBuilt g.L.LeafForm.kind l.fn.leaf l.fn.spill l.leaf l.spill (g.V.View.map l.view) l.page l.frame l.line
