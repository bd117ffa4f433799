use Rattle.std.proofs.Common.{◌+◌, ◌-◌, [], flat_map, length, map, slice_index_or}
use Rattle.std.specs.List.{range_with_len}
use Rattle.mx_audit.specs.Lines.{live_lines, live_text}
use Rattle.mx_audit.specs.Marks.{is_marked}
use Rattle.mx_tail.proofs.PassLaws.{Coming}
use Rattle.mx_audit.proofs.lines.put_live.Given as goal

abbrev pub invariant-loop-i : goal.invariant-loop-i
invariant-loop-i g l =
    let names = map (λ name. name.now) l.names in
    Coming l.initial.tail (g.R.Sink.state l.initial.sink) (live_lines names (is_marked l.live)) l.tail (g.R.Sink.state l.sink)
    (flat_map (λ d. live_text d (slice_index_or names (d - 1) []) (is_marked l.live d)) (range_with_len (l.i + 1) (length l.names - l.i)))
