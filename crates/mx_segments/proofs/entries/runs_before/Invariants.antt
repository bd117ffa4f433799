use Rattle.std.proofs.Common.{◌≤◌, ◌-◌, ◌*◌}
use Rattle.mx_words.specs.Counting.{count_below}
use Rattle.mx_words.specs.Starts.{is_start}
use Rattle.mx_segments.specs.Store.{frames_in}
use Rattle.mx_segments.specs.Sound.{map_in}
use Rattle.mx_segments.proofs.entries.runs_before.Given as goal

abbrev pub invariant-loop-low : goal.invariant-loop-low
invariant-loop-low l = record {
  from : l.low ≤ count_below l.before (is_start (map_in l.words l.leaf l.chains.lists l.row));
  to : count_below l.before (is_start (map_in l.words l.leaf l.chains.lists l.row)) ≤ l.high;
  within : l.high ≤ 64 * frames_in l.chains.lists l.row;
}

abbrev pub decreases-loop-low : goal.decreases-loop-low
decreases-loop-low l = l.high - l.low
