-- Runs in which no turn meets a border.
-- The rules: docs/MACHINE.md, "Agreement".
use Rattle.std.specs.Prelude.{◌≡◌, ℕ, ◌<◌, false}
use Rattle.mx_model.specs.Agreement.{Nothing, border}
use Rattle.mx_model.specs.Reads.{reads}
use Rattle.mx_model.specs.Run.{Schedule, hart_of, is_stopped, run}
use Rattle.mx_model.specs.State.{State}
use Rattle.mx_laws.specs.Twins.{IsRunning}

-- the next turn, if one is made and its hart runs, meets no border
abbrev pub IsFree : Schedule → State → Type 0
IsFree schedule s =
    let h = hart_of schedule s.core in
    is_stopped schedule s ≡ false → IsRunning s.core h → border (reads s) s.core h ≡ Nothing

-- none of the first n turns of a run meets one
abbrev pub MeetsNoBorder : Schedule → State → ℕ → Type 0
MeetsNoBorder schedule s n = (k : ℕ) → k < n → IsFree schedule (run schedule k s)
