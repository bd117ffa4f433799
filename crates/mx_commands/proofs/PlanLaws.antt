-- A machine is one of the plan that it booted from, and stays one.
use Rattle.std.proofs.Common.{◌≡◌, ℕ, Bool, cond, List, Option, Some, None, Ok, Err, refl, sym, subst, ◌∙◌, arith}
use Rattle.std.proofs.lemmas.List.{length-map}
use Rattle.mx_words.specs.Need.{within}
use Rattle.mx_manifest.specs.declared.fault.BootFault.{BootFault}
use Rattle.mx_manifest.specs.declared.parts.ModulePlan.{ModulePlan}
use Rattle.mx_manifest.specs.Plan.{Said}
use Rattle.mx_model.specs.Run.{flat_turn}
use Rattle.mx_model.specs.State.{Flat, State, flat, map_need}
use Rattle.mx_model.proofs.KeepLaws.{keeps-turned}
use Rattle.mx_boot.specs.Boot.{Refusal, TooFull, module_of, boot_state, limited, unless, boot_of}
use Rattle.mx_boot.specs.Faults.{first_fault}
use Rattle.mx_snapshot.specs.Kept.{IsOfPlan, KeptPlan, kept_of}

if_ok : (b : Bool) (s t : State) (e : Refusal) → cond b (Ok s) (Err e) ≡ Ok t → t ≡ s
if_ok x s t e is = grind arith

unless_ok : (o : Option BootFault) (s t : State) → unless o (limited s) ≡ Ok t → t ≡ s
unless_ok None s t is = if_ok (within (map_need s) s.core.limit) s t (TooFull (map_need s) s.core.limit) is
unless_ok (Some fault) s t is = cc

-- an accepted boot gives the state at boot
pub boots : (plan : Said) (images inputs : List (List ℕ)) (t : State) → boot_of plan images inputs ≡ Ok t
    → t ≡ boot_state plan images inputs
unfolding boot_of
boots plan images inputs t is = unless_ok (first_fault plan images) (boot_state plan images inputs) t is

fresh : (plan : Said) (images inputs : List (List ℕ)) → IsOfPlan (kept_of plan) (flat (boot_state plan images inputs))
fresh plan images inputs = record {
  kind = refl;
  limit = refl;
  lookaside = refl;
  modules = length-map plan.modules module_of ∙ sym (length-map plan.modules (λ (m : ModulePlan). m.name));
}

pub boots_of_plan : (plan : Said) (images inputs : List (List ℕ)) (t : State) → boot_of plan images inputs ≡ Ok t
    → IsOfPlan (kept_of plan) (flat t)
boots_of_plan plan images inputs t is = subst (λ (s : State). IsOfPlan (kept_of plan) (flat s)) (sym (boots plan images inputs t is))
    (fresh plan images inputs)

pub turns_of_plan : (kept : KeptPlan) (f : Flat) (h : ℕ) → IsOfPlan kept f → IsOfPlan kept (flat_turn f h)
turns_of_plan kept f h is = search (arith, keeps-turned, f.core)
