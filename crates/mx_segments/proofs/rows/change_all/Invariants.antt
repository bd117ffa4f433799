use Rattle.std.proofs.Common.{ℕ, ◌≡◌, ◌+◌, ◌<◌, ◌≤◌, length}
use Rattle.mx_words.specs.Changes.{changed_map}
use Rattle.mx_pool.specs.Frames.{free_in}
use Rattle.mx_table.specs.Change.{given}
use Rattle.mx_segments.specs.Store.{IsStore}
use Rattle.mx_segments.specs.Sound.{map_in, IsSound}
use Rattle.mx_segments.proofs.rows.change_all.Given as goal

abbrev pub invariant-loop-row : goal.invariant-loop-row
invariant-loop-row l = record {
  store : IsStore l.leaf l.chains.lists;
  rows : length l.chains.lists ≡ length l.fn.chains.lists;
  total : length l.leaf ≡ length l.fn.leaf;
  sound : (q : ℕ) → q < length l.fn.chains.lists → IsSound l.words l.leaf l.chains.lists q;
  done : (q : ℕ) → q < l.row → map_in l.words l.leaf l.chains.lists q
      ≡ changed_map l.change.first l.change.count (given l.change (q + 1)) (map_in l.words l.fn.leaf l.fn.chains.lists q);
  left : (q : ℕ) → l.row ≤ q → q < length l.fn.chains.lists → map_in l.words l.leaf l.chains.lists q
      ≡ map_in l.words l.fn.leaf l.fn.chains.lists q;
  free : free_in l.fn.leaf ≤ free_in l.leaf + l.row;
  same_room : l.chains.room ≡ l.fn.chains.room;
}
