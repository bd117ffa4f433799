use Rattle.std.proofs.Common.{take, ap}
use Rattle.mx_any.specs.Machines.{meaning}
use Rattle.mx_debug.specs.Talking.{talk_of}
use Rattle.mx_debug.proofs.PieceLaws.{answered_more, ends_empty, ends_left}
use Rattle.mx_debug.proofs.ShortLaws.{ends_broken}
use Rattle.mx_debug.proofs.talking.converse.Goals as goal
use Rattle.mx_debug.proofs.talking.converse.Goals.{then-count-eq0-via-then-count-eq0, then-count-eq0-via-else-count-eq0+then-talk}

pub returns-then-count-eq0 : goal.returns-then-count-eq0
returns-then-count-eq0 g c = λ q is at.
    let h = c.pieces.invariant.talked q is at in
    let piece = take c.hear-count.result c.hear-count.new.into in
    let one = c.in-Ok.ensures.says q is h.place in
    elim c.then-count-eq0.branch [
      | then-count-eq0-via-then-count-eq0 w ↦
          ends_empty g.L.Line.hears g.L.Line.says g.L.Line.room q c.pieces.counter (talk_of c.pieces.talk) (talk_of c.answer_piece.new.talk)
          (meaning c.pieces.machine) (meaning c.answer_piece.new.machine)
          c.args.line.now c.pieces.line c.hear-count.new.self c.answer_piece.new.line piece
          (ap (λ n. take n c.hear-count.new.into) w.if-count-eq0.true) h c.hear-count.ensures.heard c.hear-count.ensures.room one
      | then-count-eq0-via-else-count-eq0+then-talk w ↦
          ends_left g.L.Line.hears g.L.Line.says g.L.Line.room q c.pieces.counter (talk_of c.pieces.talk) (talk_of c.answer_piece.new.talk)
          (meaning c.pieces.machine) (meaning c.answer_piece.new.machine)
          c.args.line.now c.pieces.line c.hear-count.new.self c.answer_piece.new.line piece w.if-talk.true h c.hear-count.ensures.heard
          c.hear-count.ensures.room one
    ]

pub returns-in-Err : goal.returns-in-Err
returns-in-Err g c = λ q is at.
    let h = c.pieces.invariant.talked q is at in
    ends_broken g.L.Line.hears g.L.Line.says g.L.Line.room q c.pieces.counter (talk_of c.pieces.talk) (meaning c.pieces.machine)
    c.args.line.now c.pieces.line c.hear-count.new.self c.answer_piece.new.line (take c.hear-count.result c.hear-count.new.into) h
    c.hear-count.ensures.heard c.hear-count.ensures.room (c.in-Err.ensures.says q is h.place)

pub pieces-preserved : goal.pieces-preserved
pieces-preserved g c = record {
  fit = c.in-Ok.ensures.fit;
  talked = λ q is at.
      let h = c.pieces.invariant.talked q is at in
      answered_more g.L.Line.hears g.L.Line.says g.L.Line.room q c.pieces.counter (talk_of c.pieces.talk) (talk_of c.answer_piece.new.talk)
      (meaning c.pieces.machine) (meaning c.answer_piece.new.machine)
      c.args.line.now c.pieces.line c.hear-count.new.self c.answer_piece.new.line (take c.hear-count.result c.hear-count.new.into) h
      c.hear-count.ensures.heard c.hear-count.ensures.room (c.in-Ok.ensures.says q is h.place);
}
