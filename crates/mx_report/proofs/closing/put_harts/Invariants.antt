use Rattle.std.proofs.Common.{◌-◌, flat_map, length}
use Rattle.std.specs.List.{range_with_len}
use Rattle.mx_model.specs.State.{hart_at}
use Rattle.mx_report.specs.Lines.{hart_lines}
use Rattle.mx_report.specs.Texts.{all_harts}
use Rattle.mx_tail.proofs.PassLaws.{Coming}
use Rattle.mx_report.proofs.closing.put_harts.Given as goal

abbrev pub invariant-loop-hart : goal.invariant-loop-hart
invariant-loop-hart g l =
    let f = l.machine in
    Coming l.initial.tail (g.R.Sink.state l.initial.sink) (all_harts f.core) l.tail (g.R.Sink.state l.sink)
    (flat_map (λ h. hart_lines h (hart_at f.core h)) (range_with_len l.hart (length f.core.harts - l.hart)))
