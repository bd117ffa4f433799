-- A run by its next turn.
use Rattle.std.proofs.Common.{◌≡◌, ℕ, suc, Bool, true, false, ap, arith}
use Rattle.mx_model.specs.Run.{Schedule, run, turn, hart_of, is_stopped}
use Rattle.mx_model.specs.State.{State}

-- a run of one turn more, where it has stopped, or hasn't
abbrev pub next_of : Schedule → ℕ → State → Bool → State
next_of schedule n s b = elim b [ true ↦ s | false ↦ run schedule n (turn s (hart_of schedule s.core)) ]

-- a run that has stopped makes no further turn
pub run-stopped : (schedule : Schedule) (n : ℕ) (s : State) → is_stopped schedule s ≡ true → run schedule n s ≡ s
run-stopped schedule x s e = grind (arith, next_of)

-- one more turn
pub run-going : (schedule : Schedule) (n : ℕ) (s : State) → is_stopped schedule s ≡ false →
    run schedule (suc n) s ≡ run schedule n (turn s (hart_of schedule s.core))
run-going schedule n s e = ap (next_of schedule n s) e
