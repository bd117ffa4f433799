use Rattle.std.proofs.Common.{◌*◌, ◌≤◌}
use Rattle.mx_trie.specs.OnWay.{AreLinesOnWay}
use Rattle.mx_trie.proofs.page.change_lines.Given as goal

abbrev pub invariant-loop-line : goal.invariant-loop-line
invariant-loop-line g l =
    (l.page * 64 ≤ l.line) × AreLinesOnWay g.L.LeafForm.kind l.fn.leaf l.fn.spill l.leaf l.spill l.lay l.beside l.page l.frame l.line
