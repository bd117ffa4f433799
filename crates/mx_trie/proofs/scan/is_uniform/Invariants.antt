use Rattle.std.proofs.Common.{◌+◌, ◌-◌, ◌≤◌}
use Rattle.mx_table.specs.Tables.{most_words}
use Rattle.mx_trie.proofs.Scans.{IsAlike}
use Rattle.mx_trie.proofs.scan.is_uniform.Given as goal

-- the words up to the next one are alike
abbrev pub invariant-loop-at : goal.invariant-loop-at
invariant-loop-at g l = record {
  from : l.first ≤ l.at;
  whole : l.at ≤ most_words;
  alike : IsAlike (g.V.View.map l.view) l.first l.at l.span.perm;
}

abbrev pub decreases-loop-at : goal.decreases-loop-at
decreases-loop-at g l = l.first + l.count - l.at
