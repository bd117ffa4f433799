use Rattle.mx_trie.specs.OnWay.{AreRegionsOnWay}
use Rattle.mx_trie.proofs.domain.change_regions.Given as goal

abbrev pub invariant-loop-region : goal.invariant-loop-region
invariant-loop-region g l =
    AreRegionsOnWay g.L.LeafForm.kind l.fn.upper l.fn.leaf l.fn.spill l.upper l.leaf l.spill l.lay l.beside l.root l.region
