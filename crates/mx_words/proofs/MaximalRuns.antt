-- The runs of a list cover it, none is empty, and they are maximal: neighbours differ.
use Rattle.std.proofs.Common.{◌≡◌, ℕ, suc, ◌+◌, ◌<◌, Bool, true, false, cond, List, [], ◌∷◌, ◌++◌, replicate, refl, ◌∙◌, ap, arith}
use Rattle.std.specs.List.{AllByRecursion}
use Rattle.mx_words.specs.Runs.{Run, run_before, runs_of}

-- the list that runs cover
abbrev pub covered : {A : Type 0} → List (Run A) → List A
covered [] = []
covered (r ∷ rs) = replicate r.count r.value ++ covered rs

-- neighbouring runs have values that differ
abbrev pub AreMaximal : {A : Type 0} → (A → A → Bool) → List (Run A) → Type 0
AreMaximal eq [] = Unit {0}
AreMaximal eq (r ∷ []) = Unit {0}
AreMaximal eq (r ∷ s ∷ rs) = (eq r.value s.value ≡ false) × AreMaximal eq (s ∷ rs)

-- a test of equality
pub record IsEquality {A : Type 0} (eq : A → A → Bool) : Type 0 where
  pub sound : (x y : A) → eq x y ≡ true → x ≡ y

replicate-more : {A : Type 0} (n : ℕ) (x : A) → replicate (n + 1) x ≡ x ∷ replicate n x
replicate-more n x = let e : n + 1 ≡ suc n = omega arith in ap (λ (k : ℕ). replicate k x) e

covered-before : {A : Type 0} (eq : A → A → Bool) → IsEquality eq → (x : A) (rs : List (Run A))
    → covered (run_before eq x rs) ≡ x ∷ covered rs
covered-before eq h x [] = refl
covered-before eq h x (r ∷ rs) = elim (eq x r.value) as
    (λ b. eq x r.value ≡ b → covered (cond b (record { count = r.count + 1; value = x } ∷ rs) (record { count = 1; value = x } ∷ r ∷ rs))
    ≡ x ∷ (replicate r.count r.value ++ covered rs)) [
      | true ↦ λ e. ap (λ xs. xs ++ covered rs) (replicate-more r.count x)
          ∙ ap (λ y. x ∷ (replicate r.count y ++ covered rs)) (h.sound x r.value e)
      | false ↦ λ e. refl
    ] refl

pub covered-runs_of : {A : Type 0} (eq : A → A → Bool) → IsEquality eq → (xs : List A) → covered (runs_of eq xs) ≡ xs
covered-runs_of eq h [] = refl
covered-runs_of eq h (x ∷ xs) = covered-before eq h x (runs_of eq xs) ∙ ap (λ ys. x ∷ ys) (covered-runs_of eq h xs)

-- no run is empty
some-before : {A : Type 0} (eq : A → A → Bool) (x : A) (rs : List (Run A)) → AllByRecursion (λ (r : Run A). 0 < r.count) rs →
    AllByRecursion (λ (r : Run A). 0 < r.count) (run_before eq x rs)
some-before eq x [] p = (omega arith, tt)
some-before {A} eq x (r ∷ rs) p = elim (eq x r.value) as
    (λ b. AllByRecursion (λ (q : Run A). 0 < q.count) (cond b (record { count = r.count + 1; value = x } ∷ rs)
    (record { count = 1; value = x } ∷ r ∷ rs))) [
      | true ↦ (omega arith, p.1)
      | false ↦ (omega arith, p)
    ]

pub some-runs_of : {A : Type 0} (eq : A → A → Bool) (xs : List A) → AllByRecursion (λ (r : Run A). 0 < r.count) (runs_of eq xs)
some-runs_of eq [] = tt
some-runs_of eq (x ∷ xs) = some-before eq x (runs_of eq xs) (some-runs_of eq xs)

-- neighbours differ
abbrev headed : {A : Type 0} → (A → A → Bool) → A → ℕ → List (Run A) → Type 0
headed eq x n rs = AreMaximal eq (record { count = n; value = x } ∷ rs)

maximal-same : {A : Type 0} (eq : A → A → Bool) (x y : A) (n m : ℕ) (rs : List (Run A)) → x ≡ y → headed eq y n rs → headed eq x m rs
maximal-same eq x y n m [] e p = tt
maximal-same eq x y n m (r ∷ rs) e p = (ap (λ z. eq z r.value) e ∙ p.0, p.1)

maximal-before : {A : Type 0} (eq : A → A → Bool) → IsEquality eq → (x : A) (rs : List (Run A)) → AreMaximal eq rs
    → AreMaximal eq (run_before eq x rs)
maximal-before eq h x [] p = tt
maximal-before eq h x (r ∷ rs) p = elim (eq x r.value) as
    (λ b. eq x r.value ≡ b → AreMaximal eq (cond b (record { count = r.count + 1; value = x } ∷ rs)
    (record { count = 1; value = x } ∷ r ∷ rs))) [
      | true ↦ λ e. maximal-same eq x r.value r.count (r.count + 1) rs (h.sound x r.value e) p
      | false ↦ λ e. (e, p)
    ] refl

pub maximal-runs_of : {A : Type 0} (eq : A → A → Bool) → IsEquality eq → (xs : List A) → AreMaximal eq (runs_of eq xs)
maximal-runs_of eq h [] = tt
maximal-runs_of eq h (x ∷ xs) = maximal-before eq h x (runs_of eq xs) (maximal-runs_of eq h xs)
