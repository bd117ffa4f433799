use Rattle.std.proofs.Common.{◌<◌, length}
use Rattle.std.specs.Str.{IsUtf8}
use Rattle.mx_io.specs.Piece.{shown_name}
use Rattle.mx_tail.proofs.PassLaws.{Coming}
use Rattle.mx_tail.proofs.gathered.put_name.Given as goal

-- the characters that are left are those of a text
abbrev pub invariant-loop-character : goal.invariant-loop-character
invariant-loop-character g l = record {
  text : IsUtf8 l.character-iterator.rest.now;
  coming : Coming l.initial.tail (g.R.Sink.state l.initial.sink) (shown_name l.name) l.tail (g.R.Sink.state l.sink)
      (shown_name l.character-iterator.rest.now);
  few : length l.tail < 4096;
}
