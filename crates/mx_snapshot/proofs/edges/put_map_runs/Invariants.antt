use Rattle.std.proofs.Common.{◌-◌, ◌≤◌, drop, flat_map}
use Rattle.mx_any.specs.Machines.{meaning}
use Rattle.mx_words.specs.Rights.{same}
use Rattle.mx_words.specs.Runs.{runs_of}
use Rattle.mx_model.specs.Reads.{map_in}
use Rattle.mx_report.specs.Runs.{run_texts}
use Rattle.mx_tail.proofs.PassLaws.{Coming}
use Rattle.mx_snapshot.specs.Spelling.{map_run_bytes}
use Rattle.mx_snapshot.specs.Stored.{perm_runs_of}
use Rattle.mx_snapshot.proofs.EdgeLaws.{by_edges}
use Rattle.mx_snapshot.proofs.edges.put_map_runs.Given as goal

abbrev pub invariant-runs : goal.invariant-runs
invariant-runs g l =
    let f = meaning l.machine in
    record {
      within : l.word ≤ f.core.size;
      coming : Coming l.initial.tail (g.R.Sink.state l.initial.sink) (flat_map map_run_bytes (perm_runs_of f l.domain)) l.tail
          (g.R.Sink.state l.sink)
          (run_texts (by_edges map_run_bytes) l.word (runs_of same (drop l.word (map_in f.core.size f.maps l.domain))));
    }

abbrev pub decreases-runs : goal.decreases-runs
decreases-runs g l = (meaning l.machine).core.size - l.word
