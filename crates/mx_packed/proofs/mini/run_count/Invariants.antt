use Rattle.std.proofs.Common.{◌≡◌, ◌≤◌, ◌+◌, drop}
use Rattle.mx_words.specs.Runs.{runs}
use Rattle.mx_packed.proofs.mini.run_count.Given as goal

abbrev pub invariant-loop-place : goal.invariant-loop-place
invariant-loop-place l = (l.place ≤ 15) × (l.count + l.place ≤ 16) × (l.count ≡ runs (drop l.place l.perms))

abbrev pub decreases-loop-place : goal.decreases-loop-place
decreases-loop-place l = l.place
