use Rattle.std.proofs.Common.{◌*◌, ◌≤◌}
use Rattle.mx_trie.specs.OnWay.{ArePagesOnWay}
use Rattle.mx_trie.proofs.region.change_pages.Given as goal

abbrev pub invariant-loop-page : goal.invariant-loop-page
invariant-loop-page g l =
    (l.region * 1024 ≤ l.page) × ArePagesOnWay g.L.LeafForm.kind l.fn.upper l.fn.leaf l.fn.spill l.upper l.leaf l.spill l.lay l.beside
    l.region l.frame l.page
