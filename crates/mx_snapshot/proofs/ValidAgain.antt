-- Maximal runs of what runs cover are these runs, and runs laid over their words give back the list whose runs they are; bits of
-- who has heard a call.
use Rattle.std.proofs.Common.{◌≡◌, ℕ, zero, suc, ◌+◌, ◌-◌, ◌^◌, ◌<◌, ◌≤◌, Bool, true, false, cond, not, nat_lt, List, [], ◌∷◌, ◌++◌, length}
use Rattle.std.proofs.Common.{replicate, refl, sym, ap, ◌∙◌, arith}
use Rattle.std.proofs.Common.{map as list_map}
use Rattle.std.specs.List.{AllByRecursion, range_with_len}
use Rattle.std.proofs.lemmas.Bool.{and_parts, ltb-true}
use Rattle.std.proofs.Math.Nat.{pow-le-pow_right}
use Rattle.mx_words.specs.Hearing.{most_harts}
use Rattle.mx_words.specs.Newest.{newest}
use Rattle.mx_words.specs.Runs.{Run, run_before, runs_of}
use Rattle.mx_words.proofs.MaximalRuns.{AreMaximal, IsEquality, covered, covered-runs_of}
use Rattle.mx_machine.specs.declared.views.HartStatus.TheVariants as V
use Rattle.mx_snapshot.proofs.CodecBounds.{bit_back}
use Rattle.mx_snapshot.proofs.ValidRuns.{laid-whole, length-covered}
use Rattle.mx_snapshot.specs.Resumed.{laid_runs}
use Rattle.mx_snapshot.specs.Rules.{has_bit, is_heard, run_words}
use Rattle.mx_snapshot.specs.Stored.{bits_of, run_with}

-- a value in front of runs of which the first has another
before-other : {A : Type 0} (eq : A → A → Bool) (v : A) (n : ℕ) (qs : List (Run A)) → AreMaximal eq (run_with n v ∷ qs)
    → run_before eq v qs ≡ run_with 1 v ∷ qs
before-other eq v n [] p = refl
before-other eq v n (q ∷ qs) p = ap (λ b. cond b (run_with (q.count + 1) v ∷ qs) (run_with 1 v ∷ q ∷ qs)) p.0

front-run : {A : Type 0} (eq : A → A → Bool) (v : A) (c n : ℕ) (ys : List A) (qs : List (Run A)) → eq v v ≡ true → runs_of eq ys ≡ qs
    → AreMaximal eq (run_with n v ∷ qs)
    → runs_of eq (replicate (suc c) v ++ ys) ≡ run_with (suc c) v ∷ qs
front-run eq v zero n ys qs itself e p = ap (run_before eq v) e ∙ before-other eq v n qs p
front-run eq v (suc c) n ys qs itself e p =
    let more : suc c + 1 ≡ suc (suc c) = omega arith in
    ap (run_before eq v) (front-run eq v c n ys qs itself e p)
    ∙ ap (λ b. cond b (run_with (suc c + 1) v ∷ qs) (run_with 1 v ∷ run_with (suc c) v ∷ qs)) itself
    ∙ ap (λ (k : ℕ). run_with k v ∷ qs) more

pub maximal-rest : {A : Type 0} (eq : A → A → Bool) (r : Run A) (rs : List (Run A)) → AreMaximal eq (r ∷ rs) → AreMaximal eq rs
maximal-rest eq r [] p = tt
maximal-rest eq r (q ∷ rs) p = p.1

pub runs-again : {A : Type 0} (eq : A → A → Bool) → ((x : A) → eq x x ≡ true) → (rs : List (Run A))
    → AllByRecursion (λ (r : Run A). 0 < r.count) rs → AreMaximal eq rs → runs_of eq (covered rs) ≡ rs
runs-again eq itself [] some p = refl
runs-again eq itself (r ∷ rs) some p =
    let lt = some.0 in
    let c : r.count ≡ suc (r.count - 1) = omega (arith, lt) in
    ap (λ (k : ℕ). runs_of eq (replicate k r.value ++ covered rs)) c
    ∙ front-run eq r.value (r.count - 1) r.count (covered rs) rs (itself r.value) (runs-again eq itself rs some.1 (maximal-rest eq r rs p))
    p
    ∙ ap (λ (k : ℕ). run_with k r.value ∷ rs) (sym c)

-- the maximal runs of a list, laid over its places
pub laid-again : {A : Type 0} (eq : A → A → Bool) (d : A) (xs : List A) (words : ℕ) → IsEquality eq → length xs ≡ words →
    list_map (newest d (laid_runs 0 (runs_of eq xs))) (range_with_len 0 words) ≡ xs
laid-again eq d xs words h e =
    let same = covered-runs_of eq h xs in
    let long : run_words (runs_of eq xs) ≡ words = sym (length-covered (runs_of eq xs)) ∙ ap length same ∙ e in
    laid-whole d (runs_of eq xs) words long ∙ same

-- a number below 16 by its four bits, and four bits by their number
pub bits-again : (n : ℕ) → n < 16 → bits_of (list_map (has_bit n) (range_with_len 0 most_harts)) ≡ n
bits-again n lt = search (arith, bit_back)

pub heard-again : (harts h heard : ℕ) → harts ≤ 4 → is_heard harts h V.Waiting heard ≡ true
    → bits_of (list_map (has_bit heard) (range_with_len 0 most_harts)) ≡ heard
heard-again harts h heard few e =
    let small = ltb-true heard (2 ^ harts) (and_parts (nat_lt heard (2 ^ harts)) (not (has_bit heard h)) e).0 in
    let most : 2 ^ harts ≤ 2 ^ 4 = pow-le-pow_right {n = 2} (omega arith) few in
    bits-again heard (omega (arith, small, most))

pub four-bits : (bs : List Bool) → length bs ≡ 4 → list_map (has_bit (bits_of bs)) (range_with_len 0 most_harts) ≡ bs
four-bits [] e = absurd (let q : ⊥ = omega (arith, e) in q)
four-bits (a ∷ []) e = absurd (let q : ⊥ = omega (arith, e) in q)
four-bits (a ∷ b ∷ []) e = absurd (let q : ⊥ = omega (arith, e) in q)
four-bits (a ∷ b ∷ c ∷ []) e = absurd (let q : ⊥ = omega (arith, e) in q)
four-bits (a ∷ b ∷ c ∷ d ∷ []) e = each a b c d
  where
    each : (a b c d : Bool) → list_map (has_bit (bits_of (a ∷ b ∷ c ∷ d ∷ []))) (range_with_len 0 most_harts) ≡ a ∷ b ∷ c ∷ d ∷ []
    each false false false false = refl
    each true false false false = refl
    each false true false false = refl
    each true true false false = refl
    each false false true false = refl
    each true false true false = refl
    each false true true false = refl
    each true true true false = refl
    each false false false true = refl
    each true false false true = refl
    each false true false true = refl
    each true true false true = refl
    each false false true true = refl
    each true false true true = refl
    each false true true true = refl
    each true true true true = refl
four-bits (a ∷ b ∷ c ∷ d ∷ x ∷ bs) e = absurd (let q : ⊥ = omega (arith, e) in q)
