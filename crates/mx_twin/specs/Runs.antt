-- Words that a domain sees alike in two machines, run by run.
use Rattle.std.specs.Prelude.{◌≡◌, ℕ, ◌-◌, ◌<◌, ◌≤◌, true, false, Option, Some, None}
use Rattle.std.specs.List.{list_all, range_with_len}
use Rattle.mx_model.specs.Reads.{flat_reads}
use Rattle.mx_model.specs.State.{Flat}
use Rattle.mx_touched.specs.Views.{sees_same}

-- the words from `at` up to the next that is told, at most `end`, are seen alike; where none is told those up to `end` aren't
abbrev pub IsSeenRun : ℕ → Flat → Flat → ℕ → ℕ → Option ℕ → Type 0
IsSeenRun d f g at end None =
    list_all (sees_same (flat_reads f) f.core (flat_reads g) g.core d)
    (range_with_len at (end - at)) ≡ false
IsSeenRun d f g at end (Some next) =
    (at < next) × (next ≤ end) × (list_all
    (sees_same (flat_reads f) f.core (flat_reads g) g.core d) (range_with_len at (next - at))
    ≡ true)
