use Rattle.mx_trie.specs.Built.{ArePagesBuilt}
use Rattle.mx_trie.proofs.build.build_pages.Given as goal

abbrev pub invariant-loop-page : goal.invariant-loop-page
invariant-loop-page g l =
    ArePagesBuilt g.L.LeafForm.kind l.fn.upper l.fn.leaf l.fn.spill l.upper l.leaf l.spill (g.V.View.map l.view) l.region l.frame l.page
