use Rattle.std.proofs.Common.{◌≡◌, ◌≤◌, ◌+◌, ◌*◌}
use Rattle.mx_words.specs.Counting.{sum_below}
use Rattle.mx_trie.specs.Built.{line_crowd}
use Rattle.mx_trie.proofs.counts.lines_crowded.Given as goal

abbrev pub invariant-loop-line : goal.invariant-loop-line
invariant-loop-line g l =
    (l.count ≡ sum_below l.line (λ k. line_crowd g.L.LeafForm.kind (g.V.View.map l.view) (l.page * 64 + k))) × (l.count ≤ l.line)
