use Rattle.std.proofs.Common.{◌-◌, flat_map, length}
use Rattle.std.specs.List.{range_with_len}
use Rattle.mx_model.specs.State.{cache_at}
use Rattle.mx_report.specs.Lines.{counts_line}
use Rattle.mx_report.specs.Texts.{counts_lines}
use Rattle.mx_tail.proofs.PassLaws.{Coming}
use Rattle.mx_report.proofs.tables.put_counts.Given as goal

abbrev pub invariant-loop-hart : goal.invariant-loop-hart
invariant-loop-hart g l =
    let f = l.machine in
    Coming l.initial.tail (g.R.Sink.state l.initial.sink) (counts_lines f.core) l.tail (g.R.Sink.state l.sink)
    (flat_map (λ h. counts_line h (cache_at f.core h)) (range_with_len l.hart (length f.core.harts - l.hart)))
