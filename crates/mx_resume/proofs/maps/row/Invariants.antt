use Rattle.std.proofs.Common.{◌≡◌, ◌≤◌, List, length}
use Rattle.mx_words.specs.declared.perm.Perm.{Perm}
use Rattle.mx_words.specs.Runs.{Run}
use Rattle.mx_snapshot.specs.Fields.{map_run_in}
use Rattle.mx_snapshot.specs.Resuming.{spans_in}
use Rattle.mx_snapshot.specs.Rules.{run_words}
use Rattle.mx_resume.specs.Extents.{last_value}
use Rattle.mx_resume.specs.Parts.{head_seen}
use Rattle.mx_resume.proofs.Lists.{Left}
use Rattle.mx_resume.proofs.maps.row.Given as goal

abbrev pub invariant-runs : goal.invariant-runs
invariant-runs l = (before : List (Run Perm)) × (length before ≡ l.read) × (run_words before ≡ l.words) × (l.words ≤ l.head.words)
    × (length l.row ≤ l.words)
    × (last_value before ≡ l.last) × (l.row ≡ spans_in 0 before)
    × Left (map_run_in (head_seen l.head) l.runs) l.bytes l.runs l.fn.at l.read before l.at
