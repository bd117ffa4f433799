-- The runs of a list from the first word of one on: that run, and the runs from its end on.
use Rattle.std.proofs.Common.{◌≡◌, ◌≢◌, ℕ, zero, suc, ◌+◌, ◌-◌, ◌<◌, ◌≤◌, Bool, true, false, cond, ◌==◌, List, [], ◌∷◌, ◌++◌, length}
use Rattle.std.proofs.Common.{get_or, drop, refl, sym, ap, ◌∙◌, arith, length-drop, get_or-drop}
use Rattle.std.proofs.lemmas.List.{drop-drop, drop_all}
use Rattle.std.proofs.lemmas.Bool.{eqb-true, eq-eqb}
use Rattle.mx_words.specs.declared.perm.Perm.{Perm}
use Rattle.mx_words.specs.declared.perm.Perm.TheVariants as P
use Rattle.mx_words.specs.Rights.{same, perm_at}
use Rattle.mx_words.specs.Runs.{Run, run_before, runs_of}
use Rattle.mx_words.proofs.RunLaws.{same_refl, same_eq}
use Rattle.mx_report.specs.Runs.{run_texts}

module _ {A : Type 0} (eq : A → A → Bool) (sound : (x y : A) → eq x y ≡ true → x ≡ y) (alike : (x : A) → eq x x ≡ true) (d : A) where
  differ : (x y : A) → y ≢ x → eq x y ≡ false
  differ x y ne = by (eq x y) refl
    where
      by : (b : Bool) → eq x y ≡ b → eq x y ≡ false
      by false e = e
      by true e = absurd (ne (sym (sound x y e)))

  -- one more element with another value in front of a list
  before_other : (x y : A) (rs : List (Run A)) → eq x y ≡ false
      → run_before eq x (run_before eq y rs) ≡ record { count = 1; value = x } ∷ run_before eq y rs
  before_other x y [] e = ap (λ b. cond b (record { count = 2; value = x } ∷ [])
      (record { count = 1; value = x } ∷ record { count = 1; value = y } ∷ [])) e
  before_other x y (r ∷ rs) e = by (eq y r.value)
    where
      by : (b : Bool) → run_before eq x (cond b (record { count = r.count + 1; value = y } ∷ rs) (record { count = 1; value = y } ∷ r ∷ rs))
          ≡ record { count = 1; value = x } ∷ cond b (record { count = r.count + 1; value = y } ∷ rs)
          (record { count = 1; value = y } ∷ r ∷ rs)
      by true = ap (λ b. cond b (record { count = r.count + 1 + 1; value = x } ∷ rs)
          (record { count = 1; value = x } ∷ record { count = r.count + 1; value = y } ∷ rs)) e
      by false = ap (λ b. cond b (record { count = 2; value = x } ∷ r ∷ rs)
          (record { count = 1; value = x } ∷ record { count = 1; value = y } ∷ r ∷ rs)) e

  -- one more element of the first run's value
  before_same : (x : A) (n : ℕ) (rs : List (Run A)) → run_before eq x (record { count = n; value = x } ∷ rs)
      ≡ record { count = n + 1; value = x } ∷ rs
  before_same x n rs = ap (λ b. cond b (record { count = n + 1; value = x } ∷ rs)
      (record { count = 1; value = x } ∷ record { count = n; value = x } ∷ rs)) (alike x)

  -- k + 1 equal elements in front, and another one after them or none
  runs_front : (k : ℕ) (x : A) (ys : List A) → k ≤ length ys → ((i : ℕ) → i < k → get_or ys i d ≡ x) → (k < length ys → get_or ys k d ≢ x) →
      runs_of eq (x ∷ ys) ≡ record { count = k + 1; value = x } ∷ runs_of eq (drop k ys)
  runs_front zero x [] le equal other = refl
  runs_front zero x (y ∷ ys) le equal other = before_other x y (runs_of eq ys) (differ x y (other (omega arith)))
  runs_front (suc k) x [] le equal other = absurd (omega arith)
  runs_front (suc k) x (y ∷ ys) le equal other =
      let e : y ≡ x = equal 0 (omega arith) in
      let rest : runs_of eq (y ∷ ys) ≡ record { count = k + 1; value = y } ∷ runs_of eq (drop k ys) =
      runs_front k y ys (omega arith) (λ i lt. equal (suc i) (omega arith) ∙ sym e) (λ lt h. other (omega arith) (h ∙ e)) in
      let more : k + 1 + 1 ≡ suc k + 1 = omega arith in
      ap (run_before eq x) rest ∙ ap (λ z. run_before eq x (record { count = k + 1; value = z } ∷ runs_of eq (drop k ys))) e
      ∙ before_same x (k + 1) (runs_of eq (drop k ys)) ∙ ap (λ (n : ℕ). record { count = n; value = x } ∷ runs_of eq (drop k ys)) more

  -- the texts of the runs from word a on, where its run ends before word b
  pub texts_from : (text : ℕ → ℕ → A → List ℕ) (m : List A) (a b : ℕ) → a < b → b ≤ length m
      → ((w : ℕ) → a ≤ w → w < b → get_or m w d ≡ get_or m a d) → (b < length m → get_or m b d ≢ get_or m a d) →
      run_texts text a (runs_of eq (drop a m)) ≡ text a b (get_or m a d) ++ run_texts text b (runs_of eq (drop b m))
  texts_from text m a b lt le equal other = by (drop a m) refl
    where
      at : (i : ℕ) → get_or (drop a m) i d ≡ get_or m (a + i) d
      at i = get_or-drop a m i d

      by : (xs : List A) → drop a m ≡ xs → run_texts text a (runs_of eq (drop a m)) ≡ text a b (get_or m a d)
          ++ run_texts text b (runs_of eq (drop b m))
      by [] e = let n = length-drop a m in let z = ap length e in absurd (omega arith)
      by (x ∷ ys) e =
          let n = length-drop a m in
          let z : length (drop a m) ≡ suc (length ys) = ap length e in
          let k : ℕ = b - a - 1 in
          let first : x ≡ get_or m a d = sym (ap (λ zs. get_or zs 0 d) e) ∙ at 0
          ∙ ap (λ i. get_or m i d) (let s : a + 0 ≡ a = omega arith in s) in
          let next : (i : ℕ) → get_or ys i d ≡ get_or m (a + suc i) d = λ i. sym (ap (λ zs. get_or zs (suc i) d) e) ∙ at (suc i) in
          let inside : (i : ℕ) → i < k → get_or ys i d ≡ x = λ i h. next i ∙ equal (a + suc i) (omega arith) (omega arith) ∙ sym first in
          let place : a + suc k ≡ b = omega arith in
          let behind : k < length ys → get_or ys k d ≢ x = λ h c.
          other (omega (arith, z, n)) (sym (next k ∙ ap (λ i. get_or m i d) place) ∙ c ∙ first) in
          let runs : runs_of eq (x ∷ ys) ≡ record { count = k + 1; value = x } ∷ runs_of eq (drop k ys) =
          runs_front k x ys (omega (arith, z, n)) inside behind in
          let count : a + (k + 1) ≡ b = omega arith in
          let sum : a + suc k ≡ b = omega arith in
          let rest : drop k ys ≡ drop b m = sym (ap (λ zs. drop (suc k) zs) e) ∙ drop-drop (suc k) a m ∙ ap (λ i. drop i m) sum in
          ap (λ zs. run_texts text a (runs_of eq zs)) e ∙ ap (run_texts text a) runs
          ∙ ap (λ (i : ℕ). text a i x ++ run_texts text i (runs_of eq (drop k ys))) count
          ∙ ap (λ v. text a b v ++ run_texts text b (runs_of eq (drop k ys))) first
          ∙ ap (λ zs. text a b (get_or m a d) ++ run_texts text b (runs_of eq zs)) rest

  -- after the list there are none
  pub texts_behind : (text : ℕ → ℕ → A → List ℕ) (m : List A) (a : ℕ) → length m ≤ a → run_texts text a (runs_of eq (drop a m)) ≡ []
  texts_behind text m a le = ap (λ zs. run_texts text a (runs_of eq zs)) (drop_all a m le)

-- of a map of so many words, and of the owners
pub map_from : (text : ℕ → ℕ → Perm → List ℕ) (m : List Perm) (size a b : ℕ) → length m ≡ size → a < b → b ≤ size
    → ((w : ℕ) → a ≤ w → w < b → perm_at m w ≡ perm_at m a) → (b < size → perm_at m b ≢ perm_at m a) →
    run_texts text a (runs_of same (drop a m)) ≡ text a b (perm_at m a) ++ run_texts text b (runs_of same (drop b m))
map_from text m size a b whole behind within alike ends =
    texts_from same same_eq same_refl P.None text m a b behind (rw whole within) alike (λ lt. ends (rw (sym whole) lt))

pub owners_from : (text : ℕ → ℕ → ℕ → List ℕ) (m : List ℕ) (a b : ℕ) → a < b → b ≤ length m
    → ((w : ℕ) → a ≤ w → w < b → get_or m w 0 ≡ get_or m a 0) → (b < length m → get_or m b 0 ≢ get_or m a 0) →
    run_texts text a (runs_of (λ x y. x == y) (drop a m)) ≡ text a b (get_or m a 0) ++ run_texts text b (runs_of (λ x y. x == y) (drop b m))
owners_from = texts_from (λ x y. x == y) eqb-true (λ n. eq-eqb n n refl) 0

pub map_behind : (text : ℕ → ℕ → Perm → List ℕ) (m : List Perm) (a : ℕ) → length m ≤ a → run_texts text a (runs_of same (drop a m)) ≡ []
map_behind = texts_behind same same_eq same_refl P.None

pub owners_behind : (text : ℕ → ℕ → ℕ → List ℕ) (m : List ℕ) (a : ℕ) → length m ≤ a
    → run_texts text a (runs_of (λ x y. x == y) (drop a m)) ≡ []
owners_behind = texts_behind (λ x y. x == y) eqb-true (λ n. eq-eqb n n refl) 0
