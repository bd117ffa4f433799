use Rattle.std.proofs.Common.{ℕ, ◌≡◌, ◌*◌, ◌<◌, ◌≤◌, length}
use Rattle.mx_pool.specs.Frames.{free_in}
use Rattle.mx_segments.specs.Store.{frames_in, word_in, IsStore, KeepsOthers}
use Rattle.mx_segments.proofs.moves.trim.Given as goal

abbrev pub invariant-loop-leaf : goal.invariant-loop-leaf
invariant-loop-leaf l = record {
  store : IsStore l.leaf l.chains.lists;
  others : KeepsOthers l.fn.leaf l.fn.chains.lists l.leaf l.chains.lists l.row;
  row : l.row < length l.chains.lists;
  frames : l.frames ≤ frames_in l.chains.lists l.row;
  words : (j : ℕ) → j < 64 * l.frames → word_in l.leaf l.chains.lists l.row j ≡ word_in l.fn.leaf l.fn.chains.lists l.row j;
  free : free_in l.fn.leaf ≤ free_in l.leaf;
  same_room : l.chains.room ≡ l.fn.chains.room;
}

abbrev pub decreases-loop-leaf : goal.decreases-loop-leaf
decreases-loop-leaf l = frames_in l.chains.lists l.row
