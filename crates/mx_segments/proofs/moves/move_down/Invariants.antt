use Rattle.std.proofs.Common.{◌-◌, ◌*◌}
use Rattle.mx_segments.specs.Store.{frames_in, word_in, IsRewritten}
use Rattle.mx_segments.proofs.PieceMoves.{IsMovedDown}
use Rattle.mx_segments.proofs.moves.move_down.Given as goal

abbrev pub invariant-loop-begin : goal.invariant-loop-begin
invariant-loop-begin l = record {
  rewritten : IsRewritten l.fn.leaf l.leaf l.chains.lists l.row;
  down : IsMovedDown (word_in l.fn.leaf l.chains.lists l.row) (word_in l.leaf l.chains.lists l.row) l.from l.to l.by l.begin
      (64 * frames_in l.chains.lists l.row);
}

abbrev pub decreases-loop-begin : goal.decreases-loop-begin
decreases-loop-begin l = l.to - l.begin
