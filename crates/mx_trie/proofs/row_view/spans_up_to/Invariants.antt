use Rattle.std.proofs.Common.{ℕ, ◌-◌, ◌<◌, ◌≤◌, length}
use Rattle.mx_table.specs.Rows.{span_at}
use Rattle.mx_trie.proofs.row_view.spans_up_to.Given as goal

-- the spans before `low` begin at the word or before it, those from `high` on after it
abbrev pub invariant-loop-low : goal.invariant-loop-low
invariant-loop-low l = record {
  order : l.low ≤ l.high;
  within : l.high ≤ length l.row;
  begun : (k : ℕ) → k < l.low → (span_at l.row k).first ≤ l.word;
  later : (k : ℕ) → l.high ≤ k → k < length l.row → l.word < (span_at l.row k).first;
}

abbrev pub decreases-loop-low : goal.decreases-loop-low
decreases-loop-low l = l.high - l.low
