use Rattle.std.proofs.Common.{◌<◌, length, drop}
use Rattle.mx_io.specs.Piece.{pieces_text}
use Rattle.mx_tail.proofs.PassLaws.{Coming}
use Rattle.mx_tail.proofs.gathered.put_pieces.Given as goal

abbrev pub invariant-loop-piece : goal.invariant-loop-piece
invariant-loop-piece g l = record {
  coming : Coming l.initial.tail (g.R.Sink.state l.initial.sink) (pieces_text l.pieces) l.tail (g.R.Sink.state l.sink)
      (pieces_text (drop l.piece-index l.pieces));
  few : length l.tail < 4096;
}
