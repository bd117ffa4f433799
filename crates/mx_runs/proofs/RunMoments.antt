-- A run of one turn more, from its end.
use Rattle.std.proofs.Common.{◌≡◌, ℕ, ◌+◌, true, false, ◌∙◌}
use Rattle.mx_model.specs.Run.{Schedule, hart_of, is_stopped, run, turn}
use Rattle.mx_model.specs.State.{State}
use Rattle.mx_model.proofs.RunLaws.{run-add}
use Rattle.mx_model.proofs.RunSteps.{run-going, run-stopped}

-- a run of one turn more
pub one-more : (schedule : Schedule) (k : ℕ) (s : State) → is_stopped schedule (run schedule k s) ≡ false →
    run schedule (k + 1) s ≡ turn (run schedule k s) (hart_of schedule (run schedule k s).core)
one-more schedule k s e = run-add schedule k 1 s ∙ run-going schedule 0 (run schedule k s) e

pub no-more : (schedule : Schedule) (k : ℕ) (s : State) → is_stopped schedule (run schedule k s) ≡ true →
    run schedule (k + 1) s ≡ run schedule k s
no-more schedule k s e = run-add schedule k 1 s ∙ run-stopped schedule 1 (run schedule k s) e
