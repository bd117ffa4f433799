use Rattle.std.proofs.Common.{ℕ, ◌≡◌, ◌*◌, ◌<◌, ◌≤◌}
use Rattle.mx_segments.specs.Store.{frames_in, word_in, IsRewritten}
use Rattle.mx_segments.proofs.moves.clear.Given as goal

abbrev pub invariant-loop-i : goal.invariant-loop-i
invariant-loop-i l = record {
  start : l.to < l.from → l.i ≡ l.from;
  rewritten : IsRewritten l.fn.leaf l.leaf l.chains.lists l.row;
  zeros : (j : ℕ) → l.from ≤ j → j < l.i → word_in l.leaf l.chains.lists l.row j ≡ 0;
  below : (j : ℕ) → j < l.from → j < 64 * frames_in l.chains.lists l.row
      → word_in l.leaf l.chains.lists l.row j ≡ word_in l.fn.leaf l.chains.lists l.row j;
  behind : (j : ℕ) → l.i ≤ j → j < 64 * frames_in l.chains.lists l.row
      → word_in l.leaf l.chains.lists l.row j ≡ word_in l.fn.leaf l.chains.lists l.row j;
}
