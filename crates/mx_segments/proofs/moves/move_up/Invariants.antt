use Rattle.std.proofs.Common.{◌*◌}
use Rattle.mx_segments.specs.Store.{frames_in, word_in, IsRewritten}
use Rattle.mx_segments.proofs.PieceMoves.{IsMovedUp}
use Rattle.mx_segments.proofs.moves.move_up.Given as goal

abbrev pub invariant-loop-end : goal.invariant-loop-end
invariant-loop-end l = record {
  rewritten : IsRewritten l.fn.leaf l.leaf l.chains.lists l.row;
  up : IsMovedUp (word_in l.fn.leaf l.chains.lists l.row) (word_in l.leaf l.chains.lists l.row) l.from l.to l.by l.end
      (64 * frames_in l.chains.lists l.row);
}

abbrev pub decreases-loop-end : goal.decreases-loop-end
decreases-loop-end l = l.end
