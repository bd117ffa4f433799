-- Runs one after the other, and what they come to.
use Rattle.std.proofs.Common.{◌≡◌, ℕ, zero, suc, ◌+◌, Bool, true, false, refl, sym, ◌∙◌, ap, arith}
use Rattle.mx_model.specs.Run.{Schedule, run, turn, hart_of, is_stopped}
use Rattle.mx_model.specs.State.{State}

-- what a run of one turn more is, where it has stopped, or hasn't
abbrev next_of : Schedule → ℕ → State → Bool → State
next_of schedule n s b = elim b [ true ↦ s | false ↦ run schedule n (turn s (hart_of schedule s.core)) ]

-- a run that has stopped makes no further turn
run-stopped : (schedule : Schedule) (n : ℕ) (s : State) → is_stopped schedule s ≡ true → run schedule n s ≡ s
run-stopped schedule x s e = grind (arith, next_of)

-- one more turn
run-going : (schedule : Schedule) (n : ℕ) (s : State) → is_stopped schedule s ≡ false →
    run schedule (suc n) s ≡ run schedule n (turn s (hart_of schedule s.core))
run-going schedule n s e = ap (next_of schedule n s) e

-- a run of n turns followed by one of m is the run of n + m
pub run-add : (schedule : Schedule) (n m : ℕ) (s : State) → run schedule (n + m) s ≡ run schedule m (run schedule n s)
run-add schedule zero m s = let e : 0 + m ≡ m = omega arith in rw e refl
run-add schedule (suc n) m s =
    let e : suc n + m ≡ suc (n + m) = omega arith in
    elim (is_stopped schedule s) as (λ b. is_stopped schedule s ≡ b
    → run schedule (suc n + m) s ≡ run schedule m (run schedule (suc n) s)) [
      | true ↦ λ t. run-stopped schedule (suc n + m) s t ∙ sym (ap (run schedule m) (run-stopped schedule (suc n) s t)
          ∙ run-stopped schedule m s t)
      | false ↦ λ f. ap (λ k. run schedule k s) e ∙ run-going schedule (n + m) s f
          ∙ run-add schedule n m (turn s (hart_of schedule s.core)) ∙ ap (run schedule m) (sym (run-going schedule n s f))
    ] refl
