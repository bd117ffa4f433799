use Rattle.std.proofs.Common.{◌≤◌, ◌*◌}
use Rattle.mx_trie.specs.Walk.{most_pages, most_lines}
use Rattle.mx_trie.specs.After.{IsNeedOf}
use Rattle.mx_trie.specs.Built.{rows_map}
use Rattle.mx_trie.proofs.build.need_of_rows.Given as goal

abbrev pub invariant-loop-row : goal.invariant-loop-row
invariant-loop-row g l = record {
  told : IsNeedOf g.L.LeafForm.kind l.row-index (rows_map l.words l.rows) l.all;
  few_upper : l.all.upper ≤ l.row-index * 17;
  few_leaf : l.all.leaf ≤ l.row-index * most_pages;
  few_spill : l.all.spill ≤ l.row-index * most_lines;
}
