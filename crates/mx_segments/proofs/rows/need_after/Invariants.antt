use Rattle.std.proofs.Common.{◌≡◌, ◌+◌, ◌*◌, ◌≤◌}
use Rattle.mx_words.specs.Changes.{changed_map}
use Rattle.mx_words.specs.Counting.{sum_below}
use Rattle.mx_words.specs.Need.{segment_frames}
use Rattle.mx_table.specs.Change.{given}
use Rattle.mx_segments.specs.Lists.{longest_list}
use Rattle.mx_segments.specs.Sound.{map_in}
use Rattle.mx_segments.proofs.rows.need_after.Given as goal

abbrev pub invariant-loop-row : goal.invariant-loop-row
invariant-loop-row l = record {
  needed : l.needed ≡ sum_below l.row (λ q. segment_frames (changed_map l.change.first l.change.count (given l.change (q + 1))
      (map_in l.words l.leaf l.chains.lists q)));
  most : l.needed ≤ l.row * longest_list;
}
