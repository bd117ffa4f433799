-- The modules of a plan, one by one.
use Rattle.std.proofs.Common.{◌≡◌, ℕ, ◌+◌, List, length, slice_get, Some, IfSome, ◌≤◌, ◌∙◌, subst, arith}
use Rattle.std.specs.List.{enumerate_from}
use Rattle.std.proofs.lemmas.List.{length-map}
use Rattle.std.proofs.lemmas.List.FromFn.{length-enumerate_from}
use Rattle.mx_manifest.specs.declared.parts.HartPlan.{HartPlan}
use Rattle.mx_manifest.specs.declared.parts.ModulePlan.{ModulePlan}
use Rattle.mx_manifest.specs.InRange.{IsBetween, IsInRange}
use Rattle.mx_manifest.specs.Plan.{Said}
use Rattle.mx_boot.specs.Areas.{home, homes}
use Rattle.mx_boot.proofs.Rows.{at_numbered, at_mapped}

pub home_is : (plan : Said) (images : List (List ℕ)) (i : ℕ) (m : ModulePlan) → slice_get plan.modules i ≡ Some m
    → slice_get (homes plan images) i ≡ Some (home images (i, m))
home_is plan images i m e =
    let at : slice_get (enumerate_from 0 plan.modules) i ≡ Some (i, m) =
    subst (λ k. slice_get (enumerate_from 0 plan.modules) i ≡ Some (k, m)) (let same : 0 + i ≡ i = omega arith in same)
    (at_numbered plan.modules 0 i m e) in
    at_mapped (home images) (enumerate_from 0 plan.modules) i (i, m) at

pub length-homes : (plan : Said) (images : List (List ℕ)) → length (homes plan images) ≡ length plan.modules
length-homes plan images = length-map (enumerate_from 0 plan.modules) (home images) ∙ length-enumerate_from 0 plan.modules

-- how many words of a stack area each hart has
pub few_words : (plan : ModulePlan) → IfSome plan.stack_words (IsBetween 1 1048576) → IfSome plan.stack_words (λ words. words ≤ 1048576)
few_words plan h = search (arith, plan.stack_words)

-- the domain of a hart is a module's
pub hart_domain : (plan : Said) (h : ℕ) (hart : HartPlan) → IsInRange plan → slice_get plan.harts h ≡ Some hart
    → IsBetween 1 (length plan.modules) hart.module
hart_domain plan h hart in_range at = (in_range.harts h hart at).domain
