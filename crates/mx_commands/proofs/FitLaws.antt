-- Inputs that fit their areas, one after another.
use Rattle.std.proofs.Common.{◌≡◌, inl, inr, ℕ, zero, suc, ◌+◌, ◌<◌, ◌≤◌, List, [], ◌∷◌, ◌++◌, length, get_or, slice_get, Some, IfSome}
use Rattle.std.proofs.Common.{refl, ap, ◌∙◌, sym, subst, arith}
use Rattle.std.proofs.lemmas.Bool.{cases_lt}
use Rattle.std.proofs.lemmas.List.Sums.{fold-append}
use Rattle.std.proofs.lemmas.Option.{same_Some, slice_get_within}
use Rattle.mx_boot.specs.Inputs.{AreInputs, FitsArea}
use Rattle.mx_manifest.specs.declared.parts.InputPlan.{InputPlan}
use Rattle.mx_manifest.specs.declared.parts.ModulePlan.{ModulePlan}
use Rattle.mx_manifest.specs.Plan.{Said}
use Rattle.mx_commands.specs.Boots.{total}

-- one more file
pub total_more : (files : List (List ℕ)) (bytes : List ℕ) → total (files ++ bytes ∷ []) ≡ total files + length bytes
total_more files bytes = fold-append (λ (a : ℕ) (x : List ℕ). a + length x) 0 files (bytes ∷ [])

-- the inputs of the modules before a place fit
abbrev pub AreFitting : Said → ℕ → List (List ℕ) → Type 0
AreFitting plan n inputs = (i : ℕ) (m : ModulePlan) → i < n → slice_get plan.modules i ≡ Some m
    → IfSome m.input (λ (input : InputPlan). FitsArea input (get_or inputs i []))

pub fit_none : (plan : Said) → AreFitting plan 0 []
fit_none plan i m below at = absurd (omega arith)

at_front : (xs : List (List ℕ)) (x : List ℕ) (i : ℕ) → i < length xs → get_or (xs ++ x ∷ []) i [] ≡ get_or xs i []
at_front [] x i below = absurd (omega arith)
at_front (y ∷ xs) x zero below = refl
at_front (y ∷ xs) x (suc i) below = at_front xs x i (omega arith)

at_end : (xs : List (List ℕ)) (x : List ℕ) → get_or (xs ++ x ∷ []) (length xs) [] ≡ x
at_end [] x = refl
at_end (y ∷ xs) x = at_end xs x

pub fit_next : (plan : Said) (n : ℕ) (inputs : List (List ℕ)) (m : ModulePlan) (bytes : List ℕ) → length inputs ≡ n
    → slice_get plan.modules n ≡ Some m
    → IfSome m.input (λ (input : InputPlan). FitsArea input bytes) → AreFitting plan n inputs
    → AreFitting plan (n + 1) (inputs ++ bytes ∷ [])
fit_next plan n inputs m bytes count here fits so_far i other below at = elim (cases_lt i n) [
  | inl lt ↦ subst (λ b. IfSome other.input (λ (input : InputPlan). FitsArea input b))
      (sym (at_front inputs bytes i (omega (arith, lt, count)))) (so_far i other lt at)
  | inr past ↦ (
      let place : i ≡ n = omega (arith, past, below) in
      let same : m ≡ other = same_Some m other (sym here ∙ ap (slice_get plan.modules) (sym place) ∙ at) in
      let last : get_or (inputs ++ bytes ∷ []) i [] ≡ bytes = ap (λ k. get_or (inputs ++ bytes ∷ []) k []) (place ∙ sym count)
      ∙ at_end inputs bytes in
      subst (λ b. IfSome other.input (λ (input : InputPlan). FitsArea input b)) (sym last)
      (subst (λ (x : ModulePlan). IfSome x.input (λ (input : InputPlan). FitsArea input bytes)) same fits))
]

pub fit_all : (plan : Said) (n : ℕ) (inputs : List (List ℕ)) → length plan.modules ≤ n → AreFitting plan n inputs → AreInputs plan inputs
fit_all plan n inputs past all = record {
  fit = λ i m at. let below = slice_get_within plan.modules i m at in
      all i m (omega (arith, past, below)) at;
}
