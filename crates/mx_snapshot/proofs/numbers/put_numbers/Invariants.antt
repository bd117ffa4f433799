use Rattle.std.proofs.Common.{flat_map, drop}
use Rattle.mx_image.specs.Image.{little_endian}
use Rattle.mx_tail.proofs.PassLaws.{Coming}
use Rattle.mx_snapshot.proofs.numbers.put_numbers.Given as goal

abbrev pub invariant-loop-value : goal.invariant-loop-value
invariant-loop-value g l =
    Coming l.initial.tail (g.R.Sink.state l.initial.sink) (flat_map (little_endian 4) l.values) l.tail (g.R.Sink.state l.sink)
    (flat_map (little_endian 4) (drop l.value-index l.values))
