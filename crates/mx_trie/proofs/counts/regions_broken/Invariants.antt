use Rattle.std.proofs.Common.{◌≡◌, ◌≤◌}
use Rattle.mx_words.specs.Blocks.{is_broken}
use Rattle.mx_words.specs.Counting.{bit, sum_below}
use Rattle.mx_words.specs.Runs.{region_words}
use Rattle.mx_trie.proofs.counts.regions_broken.Given as goal

abbrev pub invariant-loop-region : goal.invariant-loop-region
invariant-loop-region g l =
    (l.count ≡ sum_below l.region (λ x. bit (is_broken region_words (g.V.View.map l.view) x))) × (l.count ≤ l.region)
