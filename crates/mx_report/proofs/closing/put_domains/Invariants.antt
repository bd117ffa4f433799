use Rattle.std.proofs.Common.{◌+◌, ◌-◌, flat_map, length}
use Rattle.std.specs.List.{range_with_len}
use Rattle.std.proofs.Common.{map, slice_index_or, []}
use Rattle.mx_model.specs.Reads.{map_in}
use Rattle.mx_model.specs.State.{module_at}
use Rattle.mx_report.specs.Texts.{all_domains, domain_lines, flat_told}
use Rattle.mx_tail.proofs.PassLaws.{Coming}
use Rattle.mx_report.proofs.closing.put_domains.Given as goal

abbrev pub invariant-loop-i : goal.invariant-loop-i
invariant-loop-i g l =
    let f = l.machine in
    Coming l.initial.tail (g.R.Sink.state l.initial.sink) (all_domains (map (λ name. name.now) l.names) f.core (flat_told f)) l.tail
    (g.R.Sink.state l.sink)
    (flat_map (λ d. domain_lines d (slice_index_or (map (λ name. name.now) l.names) (d - 1) []) (module_at f.core d).dead
    (map_in f.core.size f.maps d)) (range_with_len (l.i + 1) (length f.core.modules - l.i)))
