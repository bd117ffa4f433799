use Rattle.mx_trie.specs.Built.{AreRegionsBuilt}
use Rattle.mx_trie.proofs.build.build_root.Given as goal

abbrev pub invariant-loop-region : goal.invariant-loop-region
invariant-loop-region g l =
    AreRegionsBuilt g.L.LeafForm.kind l.fn.upper l.fn.leaf l.fn.spill l.upper l.leaf l.spill (g.V.View.map l.view) l.root l.region
