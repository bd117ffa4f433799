use Rattle.std.proofs.Common.{◌-◌, ◌≤◌, drop}
use Rattle.mx_words.specs.Rights.{same}
use Rattle.mx_words.specs.Runs.{runs_of}
use Rattle.mx_model.specs.Reads.{map_in}
use Rattle.mx_report.specs.Lines.{map_text}
use Rattle.mx_report.specs.Runs.{run_texts}
use Rattle.mx_report.specs.Texts.{map_lines}
use Rattle.mx_tail.proofs.PassLaws.{Coming}
use Rattle.mx_report.proofs.maps.put_maps.Given as goal

abbrev pub invariant-runs : goal.invariant-runs
invariant-runs g l =
    let f = l.machine in
    let m = map_in f.core.size f.maps l.domain in
    record {
      within : l.word ≤ f.core.size;
      coming : Coming l.initial.tail (g.R.Sink.state l.initial.sink) (map_lines l.domain m) l.tail (g.R.Sink.state l.sink)
          (run_texts (map_text l.domain) l.word (runs_of same (drop l.word m)));
    }

abbrev pub decreases-runs : goal.decreases-runs
decreases-runs g l = l.machine.core.size - l.word
