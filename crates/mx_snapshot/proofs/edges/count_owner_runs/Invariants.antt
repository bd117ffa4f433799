use Rattle.std.proofs.Common.{◌≡◌, ◌+◌, ◌-◌, ◌==◌, ◌≤◌, drop, length}
use Rattle.mx_any.specs.Machines.{meaning}
use Rattle.mx_words.specs.Runs.{runs_of}
use Rattle.mx_snapshot.specs.Stored.{owner_runs_of}
use Rattle.mx_snapshot.proofs.edges.count_owner_runs.Given as goal

abbrev pub invariant-runs : goal.invariant-runs
invariant-runs l =
    let f = meaning l.machine in
    record {
      within : l.word ≤ f.core.size;
      few : l.count ≤ l.word;
      rest : l.count + length (runs_of (λ a b. a == b) (drop l.word f.owners)) ≡ length (owner_runs_of f);
    }

abbrev pub decreases-runs : goal.decreases-runs
decreases-runs l = (meaning l.machine).core.size - l.word
