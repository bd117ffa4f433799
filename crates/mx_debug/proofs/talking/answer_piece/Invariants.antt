use Rattle.std.proofs.Common.{take}
use Rattle.mx_any.specs.Machines.{meaning}
use Rattle.mx_debug.specs.Looks.{IsAt, IsFit, IsRunOf}
use Rattle.mx_debug.specs.Session.{Looked}
use Rattle.mx_debug.specs.Talking.{HasTalked, talk_of}
use Rattle.mx_debug.proofs.talking.answer_piece.Given as goal

abbrev pub invariant-bytes : goal.invariant-bytes
invariant-bytes g l = record {
  fit : IsFit l.course.most.count l.talk.session.made (meaning l.machine);
  talked : (q : Looked) → IsRunOf q l.course → IsAt q l.fn.talk.session.made (meaning l.fn.machine) →
      HasTalked g.L.Line.says g.L.Line.room q (talk_of l.fn.talk) (take l.byte-index l.piece) (talk_of l.talk) (meaning l.machine) l.fn.line
      l.line;
}
