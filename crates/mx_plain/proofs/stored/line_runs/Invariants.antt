use Rattle.std.proofs.Common.{◌≡◌, ◌≤◌, drop, length}
use Rattle.mx_words.specs.Rights.{same}
use Rattle.mx_words.specs.Runs.{runs_of}
use Rattle.mx_plain.specs.LineRuns.{runs_in}
use Rattle.mx_plain.proofs.stored.line_runs.Given as goal

abbrev pub invariant-loop-place : goal.invariant-loop-place
invariant-loop-place l = (runs_in l.runs ≡ runs_of same (drop l.place l.line)) × (l.runs.from ≤ 16) × (l.place ≤ 16)
    × (length l.runs.places ≡ 16)

abbrev pub decreases-loop-place : goal.decreases-loop-place
decreases-loop-place l = l.place
