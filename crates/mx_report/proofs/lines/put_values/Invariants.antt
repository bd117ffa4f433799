use Rattle.std.proofs.Common.{flat_map, drop}
use Rattle.mx_report.specs.Lines.{register_text}
use Rattle.mx_tail.proofs.PassLaws.{Coming}
use Rattle.mx_report.proofs.lines.put_values.Given as goal

abbrev pub invariant-loop-value : goal.invariant-loop-value
invariant-loop-value g l =
    Coming l.initial.tail (g.R.Sink.state l.initial.sink) (flat_map register_text l.values) l.tail (g.R.Sink.state l.sink)
    (flat_map register_text (drop l.value-index l.values))
