use Rattle.std.proofs.Common.{flat_map, drop}
use Rattle.mx_any.specs.Machines.{meaning}
use Rattle.mx_model.specs.State.{Hart}
use Rattle.mx_tail.proofs.PassLaws.{Coming}
use Rattle.mx_snapshot.specs.Spelling.{hart_bytes}
use Rattle.mx_snapshot.specs.Stored.{stored_hart}
use Rattle.mx_snapshot.proofs.harts.put_harts.Given as goal

abbrev pub invariant-loop-hart : goal.invariant-loop-hart
invariant-loop-hart g l =
    let harts = (meaning l.machine).core.harts in
    let text = λ (h : Hart). hart_bytes (stored_hart h) in
    Coming l.initial.tail (g.R.Sink.state l.initial.sink) (flat_map text harts) l.tail (g.R.Sink.state l.sink)
    (flat_map text (drop l.hart harts))
