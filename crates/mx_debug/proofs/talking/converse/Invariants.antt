use Rattle.mx_any.specs.Machines.{meaning}
use Rattle.mx_debug.specs.Looks.{IsAt, IsFit, IsRunOf}
use Rattle.mx_debug.specs.Session.{Looked}
use Rattle.mx_debug.specs.Talking.{HasAnswered, talk_of}
use Rattle.mx_debug.proofs.talking.converse.Given as goal

abbrev pub invariant-pieces : goal.invariant-pieces
invariant-pieces g l = record {
  fit : IsFit l.course.most.count l.talk.session.made (meaning l.machine);
  talked : (q : Looked) → IsRunOf q l.course → IsAt q 0 (meaning l.fn.machine) →
      HasAnswered g.L.Line.hears g.L.Line.says g.L.Line.room q l.counter (talk_of l.talk) (meaning l.machine) l.fn.line l.line;
}
