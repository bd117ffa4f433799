-- Runs from valid states keep them valid, and a run that is stopped, saved and taken up is the whole run.
use Rattle.std.proofs.Common.{ℕ, zero, suc, true, false, sym, subst, arith}
use Rattle.mx_model.specs.Run.{Schedule, hart_of, is_stopped, run, turn}
use Rattle.mx_model.specs.State.{Flat, State, flat}
use Rattle.mx_model.specs.Valid.{IsFlat}
use Rattle.mx_model.proofs.FlatLaws.{flat-turn}
use Rattle.mx_model.proofs.RunSteps.{next_of}
use Rattle.mx_model.proofs.ValidFlat.{flat-turned}
use Rattle.mx_snapshot.proofs.GivenBack.{given-back}
use Rattle.mx_snapshot.specs.Kept.{KeptPlan}
use Rattle.mx_snapshot.specs.Resumed.{state_of}
use Rattle.mx_snapshot.specs.Same.{TakesUp}
use Rattle.mx_snapshot.specs.Stored.{stored_of}

pub run-valid : (p : Schedule) (n : ℕ) (s : State) → IsFlat (flat s) → IsFlat (flat (run p n s))
run-valid p zero s valid = valid
run-valid p (suc n) s valid = elim (is_stopped p s) as (λ b. IsFlat (flat (next_of p n s b))) [
  | true ↦ valid
  | false ↦ run-valid p n (turn s (hart_of p s.core)) (subst (λ (f : Flat). IsFlat f) (sym (flat-turn s (hart_of p s.core)))
      (flat-turned (flat s) (hart_of p s.core) valid))
]

-- a snapshot's state takes up a run of which it was stored
pub saved-takes-up : (p : Schedule) (n : ℕ) (s : State) (kept : KeptPlan) → IsFlat (flat s)
    → TakesUp (run p n s) (state_of (stored_of kept (flat (run p n s))))
saved-takes-up p n s kept valid = search (arith, given-back, run-valid)
