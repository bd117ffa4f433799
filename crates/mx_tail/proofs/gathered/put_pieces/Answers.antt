use Rattle.std.proofs.lemmas.Result.{err_from_is_err_and}
use Rattle.mx_io.specs.Piece.{piece_text}
use Rattle.mx_tail.proofs.PassLaws.{coming_all, coming_item, coming_item_stop, coming_items}
use Rattle.mx_tail.proofs.gathered.put_pieces.Goals as goal

pub loop-piece-init : goal.loop-piece-init
loop-piece-init g c = record { coming = coming_all _ _ _; few = c.len-held.ensures.few }

pub returns-in_err-put_piece-clause-passes : goal.returns-in_err-put_piece-clause-passes
returns-in_err-put_piece-clause-passes g c =
    let p = err_from_is_err_and c.from_residual.result c.from_residual.ensures.1 in
    rw (p.1, p.2) (coming_item_stop piece_text _ _ _ c.loop-piece-test.true c.loop-piece.invariant.coming c.in_err-put_piece.ensures.passes)

pub loop-piece-preserved : goal.loop-piece-preserved
loop-piece-preserved g c =
    record {
      coming = coming_item piece_text _ _ _ c.loop-piece-test.true c.loop-piece.invariant.coming c.in_ok-put_piece.ensures.passes;
      few = c.in_ok-put_piece.ensures.few;
    }

pub returns-clause-passes : goal.returns-clause-passes
returns-clause-passes g c = coming_items piece_text _ _ c.loop-piece-test.false c.loop-piece.invariant.coming
