use Rattle.std.proofs.Common.{◌≡◌, ◌+◌, ◌-◌, ◌≤◌, drop, length}
use Rattle.mx_any.specs.Machines.{meaning}
use Rattle.mx_words.specs.Rights.{same}
use Rattle.mx_words.specs.Runs.{runs_of}
use Rattle.mx_model.specs.Reads.{map_in}
use Rattle.mx_snapshot.specs.Stored.{perm_runs_of}
use Rattle.mx_snapshot.proofs.edges.count_map_runs.Given as goal

abbrev pub invariant-runs : goal.invariant-runs
invariant-runs l =
    let f = meaning l.machine in
    record {
      within : l.word ≤ f.core.size;
      few : l.count ≤ l.word;
      rest : l.count + length (runs_of same (drop l.word (map_in f.core.size f.maps l.domain))) ≡ length (perm_runs_of f l.domain);
    }

abbrev pub decreases-runs : goal.decreases-runs
decreases-runs l = (meaning l.machine).core.size - l.word
