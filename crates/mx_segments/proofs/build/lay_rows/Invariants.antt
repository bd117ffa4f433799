use Rattle.std.proofs.Common.{ℕ, ◌≡◌, ◌+◌, ◌<◌, ◌≤◌, [], length, get_or, take, sum_by}
use Rattle.mx_words.specs.Need.{segment_frames}
use Rattle.mx_pool.specs.Frames.{free_in}
use Rattle.mx_table.specs.Tables.{row_map}
use Rattle.mx_segments.specs.Store.{frames_in, IsStore}
use Rattle.mx_segments.specs.Sound.{map_in, IsSound}
use Rattle.mx_segments.proofs.build.lay_rows.Given as goal

abbrev pub invariant-loop-row : goal.invariant-loop-row
invariant-loop-row l = record {
  store : IsStore l.leaf l.chains.lists;
  count : length l.chains.lists ≡ length l.rows;
  total : length l.leaf ≡ length l.fn.leaf;
  sound : (q : ℕ) → q < l.row → IsSound l.words l.leaf l.chains.lists q;
  maps : (q : ℕ) → q < l.row → map_in l.words l.leaf l.chains.lists q ≡ row_map l.words (get_or l.rows q []);
  same_room : l.chains.room ≡ l.fn.chains.room;
  empty : (q : ℕ) → l.row ≤ q → frames_in l.chains.lists q ≡ 0;
  free : free_in l.leaf + sum_by (λ row. segment_frames (row_map l.words row)) (take l.row l.rows) ≡ free_in l.fn.leaf;
}
