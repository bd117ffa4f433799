-- The test of all numbers of a range tells that each passes.
use Rattle.std.proofs.Common.{◌≡◌, ℕ, zero, suc, ◌+◌, ◌<◌, ◌≤◌, Bool, true, refl, ap, ◌∙◌, arith, ⊎_elim}
use Rattle.std.specs.List.{list_all, range_with_len}
use Rattle.std.proofs.lemmas.Bool.{and_parts, and_from, cases_lt}

pub all_pass : (test : ℕ → Bool) (first count : ℕ) → ((i : ℕ) → first ≤ i → i < first + count → test i ≡ true)
    → list_all test (range_with_len first count) ≡ true
all_pass test first zero each = refl
all_pass test first (suc count) each = and_from _ _ (each first (omega arith) (omega arith))
    (all_pass test (first + 1) count (λ i le lt. each i (omega arith) (omega arith)))

pub each_passes : (test : ℕ → Bool) (first count : ℕ) → list_all test (range_with_len first count) ≡ true → (i : ℕ) → first ≤ i
    → i < first + count → test i ≡ true
each_passes test first zero all i le lt = absurd (omega arith)
each_passes test first (suc count) all i le lt =
    let parts = and_parts _ _ all in
    ⊎_elim
    (λ (more : first < i). each_passes test (first + 1) count parts.1 i (omega arith) (omega arith))
    (λ (same : i ≤ first). let e : i ≡ first = omega arith in ap test e ∙ parts.0)
    (cases_lt first i)
