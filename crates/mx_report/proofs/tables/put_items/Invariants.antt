use Rattle.std.proofs.Common.{◌+◌, ◌-◌, flat_map, length}
use Rattle.std.specs.List.{range_with_len}
use Rattle.mx_model.specs.Reads.{map_in}
use Rattle.mx_report.specs.Texts.{all_items, flat_told, shown_lines}
use Rattle.mx_tail.proofs.PassLaws.{Coming}
use Rattle.mx_report.proofs.tables.put_items.Given as goal

abbrev pub invariant-loop-i : goal.invariant-loop-i
invariant-loop-i g l =
    let f = l.machine in
    Coming l.initial.tail (g.R.Sink.state l.initial.sink) (all_items f.core (flat_told f)) l.tail (g.R.Sink.state l.sink)
    (flat_map (λ d. shown_lines d f.core.kind (map_in f.core.size f.maps d)) (range_with_len (l.i + 1) (length f.core.modules - l.i)))
