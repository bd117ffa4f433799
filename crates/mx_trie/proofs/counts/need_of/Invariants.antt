use Rattle.std.proofs.Common.{◌≡◌, ◌≤◌, ◌*◌}
use Rattle.mx_words.specs.Blocks.{is_broken}
use Rattle.mx_words.specs.Counting.{bit, sum_below}
use Rattle.mx_words.specs.Runs.{page_words}
use Rattle.mx_trie.specs.Built.{page_crowd}
use Rattle.mx_trie.proofs.counts.need_of.Given as goal

abbrev pub invariant-loop-page : goal.invariant-loop-page
invariant-loop-page g l = record {
  leaf : l.leaf ≡ sum_below l.page (λ y. bit (is_broken page_words (g.V.View.map l.view) y));
  spill : l.spill ≡ sum_below l.page (page_crowd g.L.LeafForm.kind (g.V.View.map l.view));
  few_leaf : l.leaf ≤ l.page;
  few_spill : l.spill ≤ l.page * 64;
}
