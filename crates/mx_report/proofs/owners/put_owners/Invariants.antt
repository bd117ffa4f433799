use Rattle.std.proofs.Common.{◌-◌, ◌==◌, ◌≤◌, drop}
use Rattle.mx_words.specs.Runs.{runs_of}
use Rattle.mx_report.specs.Lines.{owner_text}
use Rattle.mx_report.specs.Runs.{run_texts}
use Rattle.mx_report.specs.Texts.{owner_lines}
use Rattle.mx_tail.proofs.PassLaws.{Coming}
use Rattle.mx_report.proofs.owners.put_owners.Given as goal

abbrev pub invariant-runs : goal.invariant-runs
invariant-runs g l =
    let os = l.machine.owners in
    record {
      within : l.word ≤ l.machine.core.size;
      coming : Coming l.initial.tail (g.R.Sink.state l.initial.sink) (owner_lines os) l.tail (g.R.Sink.state l.sink)
          (run_texts owner_text l.word (runs_of (λ a b. a == b) (drop l.word os)));
    }

abbrev pub decreases-runs : goal.decreases-runs
decreases-runs g l = l.machine.core.size - l.word
