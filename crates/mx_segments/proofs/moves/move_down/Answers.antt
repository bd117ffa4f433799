use Rattle.std.proofs.Common.{◌*◌, refl, arith}
use Rattle.mx_segments.specs.Store.{frames_in, word_in}
use Rattle.mx_segments.proofs.MoveLaws.{rewritten_refl, rewritten_trans}
use Rattle.mx_segments.proofs.PieceMoves.{down-more}
use Rattle.mx_segments.proofs.moves.move_down.Goals as goal

pub loop-begin-init : goal.loop-begin-init
loop-begin-init c = record {
  rewritten = rewritten_refl c.args.leaf.now c.args.chains.now.lists c.args.row c.requires.store;
  down = record {
    from_begin = omega arith;
    to_begin = c.requires.range;
    moved = λ j ge lt. absurd (omega arith);
    below = λ j lt. refl;
    behind = λ j ge lt. refl;
  };
}

pub loop-begin-preserved : goal.loop-begin-preserved
loop-begin-preserved c = record {
  rewritten = rewritten_trans c.args.leaf.now c.loop-begin.leaf c.copy_piece.new.leaf c.args.chains.now.lists c.args.row
      c.loop-begin.invariant.rewritten c.copy_piece.ensures.rewritten;
  down = down-more (word_in c.args.leaf.now c.args.chains.now.lists c.args.row)
      (word_in c.loop-begin.leaf c.args.chains.now.lists c.args.row) (word_in c.copy_piece.new.leaf c.args.chains.now.lists c.args.row)
      c.args.from c.args.to c.args.by c.loop-begin.begin c.piece_end-end.result (64 * frames_in c.args.chains.now.lists c.args.row)
      c.requires.room c.requires.far c.piece_end-end.ensures.more c.piece_end-end.ensures.most
      c.loop-begin.invariant.down c.copy_piece.ensures.piece;
}
