use Rattle.std.proofs.Common.{◌-◌, ◌≤◌, length, drop}
use Rattle.mx_io.proofs.Text.{Left}
use Rattle.mx_io.proofs.sink.put_all.Given as goal

-- how much of the bytes was put
abbrev pub invariant-parts : goal.invariant-parts
invariant-parts g l = record {
  within : l.done ≤ length l.bytes;
  left : Left (g.S.Sink.state l.initial.sink) (g.S.Sink.state l.sink) l.bytes (drop l.done l.bytes);
}

abbrev pub decreases-parts : goal.decreases-parts
decreases-parts g l = length l.bytes - l.done
