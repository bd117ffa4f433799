-- A run when its caches are forgotten.
use Rattle.std.proofs.Common.{◌≡◌, ℕ, zero, suc, true, false, refl, sym, ◌∙◌, ap}
use Rattle.mx_model.specs.Run.{ByQuantum, ByBytes, Schedule, hart_of, is_stopped, run, turn}
use Rattle.mx_model.specs.State.{State}
use Rattle.mx_uncached.specs.Turn.{next_hart, plain_run, plain_turn}
use Rattle.mx_uncached.specs.Forgetting.{plain}
use Rattle.mx_uncached.proofs.TurnLaws.{turn-plain}

-- the schedule names the same hart
names-plain : (schedule : Schedule) (s : State) → hart_of schedule s.core ≡ next_hart schedule (plain s)
names-plain (ByQuantum quantum) s = refl
names-plain (ByBytes bytes) s = refl

-- a run
pub run-plain : (schedule : Schedule) (n : ℕ) (s : State) → plain (run schedule n s) ≡ plain_run schedule n (plain s)
run-plain schedule zero s = refl
run-plain schedule (suc n) s =
    let h = hart_of schedule s.core in
    elim (is_stopped schedule s) as (λ b. plain (elim b [ true ↦ s | false ↦ run schedule n (turn s h) ])
    ≡ elim b [ true ↦ plain s | false ↦ plain_run schedule n (plain_turn (plain s) (next_hart schedule (plain s))) ]) [
      | true ↦ refl
      | false ↦ run-plain schedule n (turn s h) ∙ ap (plain_run schedule n) (turn-plain s h)
          ∙ ap (λ (g : ℕ). plain_run schedule n (plain_turn (plain s) g)) (names-plain schedule s)
    ]

-- runs of states that differ in caches alone
pub run-alike : (schedule : Schedule) (n : ℕ) (s t : State) → plain s ≡ plain t →
    plain (run schedule n s) ≡ plain (run schedule n t)
run-alike schedule n s t e = run-plain schedule n s ∙ ap (plain_run schedule n) e ∙ sym (run-plain schedule n t)
