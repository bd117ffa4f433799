use Rattle.std.proofs.Common.{◌*◌, refl, arith}
use Rattle.mx_segments.specs.Store.{frames_in, word_in}
use Rattle.mx_segments.proofs.MoveLaws.{rewritten_refl, rewritten_trans}
use Rattle.mx_segments.proofs.PieceMoves.{up-more}
use Rattle.mx_segments.proofs.moves.move_up.Goals as goal

pub loop-end-init : goal.loop-end-init
loop-end-init c = record {
  rewritten = rewritten_refl c.args.leaf.now c.args.chains.now.lists c.args.row c.requires.store;
  up = record {
    from_end = c.requires.range;
    to_end = omega arith;
    moved = λ j ge lt. absurd (omega arith);
    below = λ j lt. refl;
    behind =
        λ j ge lt. refl;
  };
}

pub loop-end-preserved : goal.loop-end-preserved
loop-end-preserved c = record {
  rewritten = rewritten_trans c.args.leaf.now c.loop-end.leaf c.copy_piece.new.leaf c.args.chains.now.lists c.args.row
      c.loop-end.invariant.rewritten c.copy_piece.ensures.rewritten;
  up = up-more (word_in c.args.leaf.now c.args.chains.now.lists c.args.row) (word_in c.loop-end.leaf c.args.chains.now.lists c.args.row)
      (word_in c.copy_piece.new.leaf c.args.chains.now.lists c.args.row)
      c.args.from c.args.to c.args.by c.loop-end.end c.piece_begin-begin.result (64 * frames_in c.args.chains.now.lists c.args.row)
      c.requires.room c.piece_begin-begin.ensures.least c.piece_begin-begin.ensures.less
      c.loop-end.invariant.up c.copy_piece.ensures.piece;
}
