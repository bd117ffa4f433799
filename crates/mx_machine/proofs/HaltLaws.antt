-- Harts that are halted in a machine, counted as halted in its checker.
use Rattle.std.proofs.Common.{◌≡◌, ◌≢◌, ℕ, zero, suc, ◌<◌, ◌≤◌, ◌⊎◌, inl, inr, Bool, true, false, cond, List, length, refl, sym, ap, subst}
use Rattle.std.proofs.Common.{◌∙◌}
use Rattle.std.proofs.lemmas.Bool.{cases_eq, cases_lt}
use Rattle.std.proofs.Math.ListN.{get_or-eq_default}
use Rattle.mx_check.specs.Harts.{Kept, kept_at, at_hart}
use Rattle.mx_check.specs.Harts.{halts as counts_as_halted}
use Rattle.mx_check.specs.Harts.{nothing_kept}
use Rattle.mx_machine.specs.declared.hart.Hart.{Hart}
use Rattle.mx_machine.specs.Actions.{halted_first}
use Rattle.mx_machine.specs.Harts.{hart_among, is_halted}
use Rattle.mx_machine.proofs.FitLaws.{count-step, others-step, own-step}

-- calls in flight stay where a hart counts as halted
flight-step : (kept : List Kept) (n h : ℕ) → (kept_at (at_hart n counts_as_halted kept) h).flight ≡ (kept_at kept h).flight
flight-step kept n h = by (cases_eq h n)
  where
    there : (n < length kept) ⊎ (length kept ≤ n) → (kept_at (at_hart n counts_as_halted kept) n).flight ≡ (kept_at kept n).flight
    there (inl l) = ap (λ (k : Kept). k.flight) (own-step kept n counts_as_halted l)
    there (inr l) =
        ap (λ (k : Kept). k.flight) (get_or-eq_default (at_hart n counts_as_halted kept) nothing_kept
        (subst (λ m. m ≤ n) (sym (count-step kept n counts_as_halted)) l))
        ∙ sym (ap (λ (k : Kept). k.flight) (get_or-eq_default kept nothing_kept l))

    by : (h ≡ n) ⊎ (h ≢ n) → (kept_at (at_hart n counts_as_halted kept) h).flight ≡ (kept_at kept h).flight
    by (inl e) = subst (λ i. (kept_at (at_hart n counts_as_halted kept) i).flight ≡ (kept_at kept i).flight) (sym e)
        (there (cases_lt n (length kept)))
    by (inr ne) = ap (λ (k : Kept). k.flight) (others-step kept n counts_as_halted h ne)

flight-at : (b : Bool) (kept : List Kept) (n h : ℕ) → (kept_at (cond b (at_hart n counts_as_halted kept) kept) h).flight
    ≡ (kept_at kept h).flight
flight-at true kept n h = flight-step kept n h
flight-at false kept n h = refl

count-at : (b : Bool) (kept : List Kept) (n : ℕ) → length (cond b (at_hart n counts_as_halted kept) kept) ≡ length kept
count-at true kept n = count-step kept n counts_as_halted
count-at false kept n = refl

pub halted-count : (n : ℕ) (harts : List Hart) (kept : List Kept) → length (halted_first n harts kept) ≡ length kept
halted-count zero harts kept = refl
halted-count (suc n) harts kept = count-at (is_halted (hart_among harts n).progress) (halted_first n harts kept) n
    ∙ halted-count n harts kept

pub halted-flight : (n : ℕ) (harts : List Hart) (kept : List Kept) (h : ℕ)
    → (kept_at (halted_first n harts kept) h).flight ≡ (kept_at kept h).flight
halted-flight zero harts kept h = refl
halted-flight (suc n) harts kept h = flight-at (is_halted (hart_among harts n).progress) (halted_first n harts kept) n h
    ∙ halted-flight n harts kept h

-- the place after one, and where a loop ends
