use Rattle.std.proofs.Common.{drop, flat_map}
use Rattle.mx_audit.specs.Lines.{sealed_line}
use Rattle.mx_tail.proofs.PassLaws.{Coming}
use Rattle.mx_audit.proofs.lines.put_sealed.Given as goal

abbrev pub invariant-loop-i : goal.invariant-loop-i
invariant-loop-i g l =
    Coming l.initial.tail (g.R.Sink.state l.initial.sink) (flat_map sealed_line l.sealed) l.tail (g.R.Sink.state l.sink)
    (flat_map sealed_line (drop l.i l.sealed))
