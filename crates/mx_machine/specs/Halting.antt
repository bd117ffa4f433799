-- Which harts count as halted in the checker.
use Rattle.std.specs.Prelude.{ℕ, List, if◌then◌else◌}
use Rattle.mx_check.specs.Harts.{Kept, at_hart}
use Rattle.mx_check.specs.Harts.{halts as counts_as_halted}
use Rattle.mx_machine.specs.declared.hart.Hart.{Hart}
use Rattle.mx_machine.specs.Harts.{hart_among, is_halted}

-- hart h counts as halted, where it is halted
abbrev pub halted_at : ℕ → List Hart → List Kept → List Kept
halted_at h harts kept =
    if is_halted (hart_among harts h).progress then at_hart h counts_as_halted kept else kept
