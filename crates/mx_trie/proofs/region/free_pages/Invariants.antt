use Rattle.mx_trie.specs.OnWay.{ArePagesEmptied}
use Rattle.mx_trie.proofs.region.free_pages.Given as goal

abbrev pub invariant-loop-place : goal.invariant-loop-place
invariant-loop-place g l =
    ArePagesEmptied g.L.LeafForm.kind l.fn.upper l.fn.leaf l.fn.spill l.upper l.leaf l.spill l.frame l.place
