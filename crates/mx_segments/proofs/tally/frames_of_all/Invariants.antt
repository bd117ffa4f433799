use Rattle.std.proofs.Common.{◌≡◌, ◌≤◌, ◌*◌, take, sum_by}
use Rattle.mx_words.specs.Need.{segment_frames}
use Rattle.mx_table.specs.Tables.{row_map}
use Rattle.mx_segments.specs.Lists.{longest_list}
use Rattle.mx_segments.proofs.tally.frames_of_all.Given as goal

abbrev pub invariant-loop-row : goal.invariant-loop-row
invariant-loop-row l = record {
  needed : l.needed ≡ sum_by (λ row. segment_frames (row_map l.words row)) (take l.row-index l.rows);
  most : l.needed ≤ l.row-index * longest_list;
}
