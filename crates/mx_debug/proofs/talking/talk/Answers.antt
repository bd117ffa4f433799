use Rattle.mx_debug.proofs.HeadLaws.{headline_of}
use Rattle.mx_debug.proofs.talking.talk.Goals as goal

pub returns-clause-headline : goal.returns-clause-headline
returns-clause-headline g c = λ q is at.
    headline_of g.L.Line.hears g.L.Line.says g.L.Line.room q c.args.line.now c.converse.new.line c.converse.result
    (c.converse.ensures q is at)
