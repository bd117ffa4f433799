use Rattle.std.proofs.Common.{ℕ, List, ◌+◌, ◌-◌, flat_map, length}
use Rattle.std.specs.List.{range_with_len}
use Rattle.mx_any.specs.Machines.{meaning}
use Rattle.mx_tail.proofs.PassLaws.{Coming}
use Rattle.mx_snapshot.specs.Spelling.{module_bytes}
use Rattle.mx_snapshot.specs.Stored.{named_module}
use Rattle.mx_snapshot.proofs.modules.put_modules.Given as goal

abbrev pub invariant-loop-i : goal.invariant-loop-i
invariant-loop-i g l =
    let f = meaning l.machine in
    let text : ℕ → List ℕ = λ d. module_bytes (named_module l.plan.names f d) in
    Coming l.initial.tail (g.R.Sink.state l.initial.sink) (flat_map text (range_with_len 1 (length f.core.modules))) l.tail
    (g.R.Sink.state l.sink)
    (flat_map text (range_with_len (l.i + 1) (length f.core.modules - l.i)))
