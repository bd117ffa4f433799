-- Two boots that differ in inputs, and runs from them.
use Rattle.std.proofs.Common.{◌≡◌, ◌⊎◌, inl, inr, ℕ, zero, suc, ◌-◌, List, [], ◌∷◌, get_or, map, slice_get, Option, Some, None, IfSome, Ok}
use Rattle.std.proofs.Common.{refl, ap, ◌∙◌, sym, subst}
use Rattle.std.specs.Prelude.{option_map}
use Rattle.std.specs.List.{enumerate_from}
use Rattle.std.specs.Option.{option_map_or}
use Rattle.std.proofs.lemmas.Option.{slice_get-map}
use Rattle.mx_model.specs.Agreement.{Runs as Going, Ended, agree, standing}
use Rattle.mx_model.specs.Run.{Schedule, run}
use Rattle.mx_model.specs.State.{State, no_hart}
use Rattle.mx_laws.specs.After.{domain_at}
use Rattle.mx_runs.specs.ForeignRuns.{HasLists}
use Rattle.mx_manifest.specs.declared.parts.HartPlan.{HartPlan}
use Rattle.mx_manifest.specs.declared.parts.InputPlan.{InputPlan}
use Rattle.mx_manifest.specs.declared.parts.ModulePlan.{ModulePlan}
use Rattle.mx_manifest.specs.Plan.{Said}
use Rattle.mx_boot.specs.Areas.{placed_input}
use Rattle.mx_boot.specs.Boot.{boot_of, boot_state, hart_at_boot}
use Rattle.mx_boot.specs.Bytes.{AreBytes}
use Rattle.mx_boot.specs.Inputs.{AreInputs, FitsArea}
use Rattle.mx_boot.proofs.Booted.{booted, boots_list, boots_valid}
use Rattle.mx_inputs.specs.Free.{MeetsNoBorder}
use Rattle.mx_inputs.specs.Same.{AreBoots, HasNoRightWhereTheyDiffer, HasSameInput, unnamed, unnamed_input, unnamed_module}
use Rattle.mx_inputs.proofs.Entitled.{same-input}
use Rattle.mx_inputs.proofs.Renamed.{boot-unnamed}
use Rattle.mx_inputs.proofs.Rights.{boots-apart}
use Rattle.mx_inputs.proofs.Sides.{AreSides, sides-run}
use Rattle.mx_inputs.proofs.Unread.{states-agree}

-- inputs that fit a plan fit it without names, and the other way round
fits-unnamed : (bytes : List ℕ) (o : Option InputPlan) →
    IfSome (option_map unnamed_input o) (λ input. FitsArea input bytes) ≡ IfSome o (λ input. FitsArea input bytes)
fits-unnamed bytes None = refl
fits-unnamed bytes (Some input) = refl

-- a module of a plan without names is one of the plan
named-at : (o : Option ModulePlan) (m : ModulePlan) → option_map unnamed_module o ≡ Some m →
    (n : ModulePlan) × (o ≡ Some n) × (unnamed_module n ≡ m)
named-at None m e = cc
named-at (Some n) m e = (n, refl, cc)

inputs-unnamed : (plan : Said) (inputs : List (List ℕ)) → AreInputs plan inputs → AreInputs (unnamed plan) inputs
inputs-unnamed plan inputs f = record {
  fit = λ i m at.
      let found = named-at (slice_get plan.modules i) m (sym (slice_get-map unnamed_module plan.modules i) ∙ at) in
      subst (λ (x : ModulePlan). IfSome x.input (λ input. FitsArea input (get_or inputs i []))) found.2
      (subst (λ T. T) (sym (fits-unnamed (get_or inputs i []) found.0.input)) (f.fit i found.0 found.1));
}

inputs-named : (plan : Said) (inputs : List (List ℕ)) → AreInputs (unnamed plan) inputs → AreInputs plan inputs
inputs-named plan inputs f = record {
  fit = λ i m at.
      subst (λ T. T) (fits-unnamed (get_or inputs i []) m.input)
      (f.fit i (unnamed_module m) (slice_get-map unnamed_module plan.modules i ∙ ap (option_map unnamed_module) at));
}

-- each hart runs at boot
hart-going : (plan : Said) (images : List (List ℕ)) (xs : List (ℕ × HartPlan)) (g : ℕ) →
    (standing (get_or (map (hart_at_boot plan images) xs) g no_hart).status ≡ Going)
    ⊎ (standing (get_or (map (hart_at_boot plan images) xs) g no_hart).status ≡ Ended)
hart-going plan images [] g = inr refl
hart-going plan images (x ∷ xs) zero = inl refl
hart-going plan images (x ∷ xs) (suc g) = hart-going plan images xs g

-- what a boot comes to, whatever the names of its inputs' files
module _ (p q : Said) (images left right : List (List ℕ)) (s t : State) (b : AreBoots p q images left right s t) where
  second : boot_of p images right ≡ Ok t
  second =
      sym (boot-unnamed p images right) ∙ ap (λ plan. boot_of plan images right) b.alike ∙ boot-unnamed q images right ∙ b.second

  fit-too : AreInputs p right
  fit-too = inputs-named p right (subst (λ plan. AreInputs plan right) (sym b.alike) (inputs-unnamed q right b.fit_too))

  pub boots-agree : (h : ℕ) → HasSameInput p left right (domain_at s.core h) → agree s t h
  boots-agree h same =
      let l = booted p images left s b.first in
      let r = booted p images right t second in
      let both = states-agree p images left right b.in_range l.0 b.fit fit-too h
      (subst (λ (x : State). HasSameInput p left right (domain_at x.core h)) (sym l.1) same) in
      subst (λ (x : State). agree s x h) r.1 (subst (λ (x : State). agree x (boot_state p images right) h) l.1 both)

  pub rights-same : (d : ℕ) → HasNoRightWhereTheyDiffer p left right s d → HasSameInput p left right d
  rights-same d nowhere =
      let l = booted p images left s b.first in
      same-input p images left right b.in_range l.0 d
      (subst (λ (x : State). HasNoRightWhereTheyDiffer p left right x d) (sym l.1) nowhere)

  -- where the module at a place is given the same
  abbrev IsSame : ℕ → Type 0
  IsSame i =
      option_map_or (λ m. placed_input left (i, m)) (slice_get p.modules i) []
      ≡ option_map_or (λ m. placed_input right (i, m)) (slice_get p.modules i) []

  abbrev domain : ℕ → ℕ
  domain h = domain_at s.core h

  abbrev one : State
  one = boot_state p images left

  abbrev two : State
  two = boot_state p images right

  boot-sides : AreBytes images → AreBytes left → AreBytes right → AreSides domain IsSame s t
  boot-sides are lefts rights =
      let l = booted p images left s b.first in
      let r = booted p images right t second in
      let lists : HasLists s =
      record { valid = (boots_valid p images left s b.in_range are lefts b.first).valid; lists = boots_list p images left s b.first } in
      let lists_too : HasLists t =
      record { valid = (boots_valid p images right t b.in_range are rights second).valid; lists = boots_list p images right t second } in
      let domains : (g : ℕ) → domain_at one.core g ≡ domain g = λ g. ap (λ (x : State). domain_at x.core g) l.1 in
      let sides : HasLists one → HasLists two → AreSides domain IsSame one two = λ first other. record {
        first = first;
        second = other;
        words = refl;
        harts = refl;
        turns = refl;
        end = refl;
        domains = λ g. domains g;
        domains_too = λ g. domains g;
        standings = λ g. refl;
        going = λ g. hart-going p images (enumerate_from 0 p.harts) g;
        apart = boots-apart p images left l.0;
        apart_too = boots-apart p images right l.0;
        agreement = λ g i. states-agree p images left right b.in_range l.0 b.fit fit-too g
            (subst (λ d. IsSame (d - 1)) (sym (domains g)) i);
      } in
      subst (λ y. AreSides domain IsSame s y) r.1
      (subst (λ x. AreSides domain IsSame x two) l.1 (sides (subst HasLists (sym l.1) lists) (subst HasLists (sym r.1) lists_too)))

  pub runs-agree : AreBytes images → AreBytes left → AreBytes right → (schedule : Schedule) (n h : ℕ) → MeetsNoBorder schedule s n →
      MeetsNoBorder schedule t n → HasSameInput p left right (domain_at s.core h) → agree (run schedule n s) (run schedule n t) h
  runs-agree are lefts rights schedule n h f f_too same =
      (sides-run domain IsSame schedule s t n (boot-sides are lefts rights) f f_too).agreement h same
