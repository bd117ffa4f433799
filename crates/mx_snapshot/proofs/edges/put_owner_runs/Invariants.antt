use Rattle.std.proofs.Common.{◌-◌, ◌==◌, ◌≤◌, drop, flat_map}
use Rattle.mx_any.specs.Machines.{meaning}
use Rattle.mx_words.specs.Runs.{runs_of}
use Rattle.mx_report.specs.Runs.{run_texts}
use Rattle.mx_tail.proofs.PassLaws.{Coming}
use Rattle.mx_snapshot.specs.Spelling.{owner_run_bytes}
use Rattle.mx_snapshot.specs.Stored.{owner_runs_of}
use Rattle.mx_snapshot.proofs.EdgeLaws.{by_edges}
use Rattle.mx_snapshot.proofs.edges.put_owner_runs.Given as goal

abbrev pub invariant-runs : goal.invariant-runs
invariant-runs g l =
    let f = meaning l.machine in
    record {
      within : l.word ≤ f.core.size;
      coming : Coming l.initial.tail (g.R.Sink.state l.initial.sink) (flat_map owner_run_bytes (owner_runs_of f)) l.tail
          (g.R.Sink.state l.sink)
          (run_texts (by_edges owner_run_bytes) l.word (runs_of (λ a b. a == b) (drop l.word f.owners)));
    }

abbrev pub decreases-runs : goal.decreases-runs
decreases-runs g l = (meaning l.machine).core.size - l.word
