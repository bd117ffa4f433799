-- What a plan's state at boot is.
use Rattle.std.proofs.Common.{◌≡◌, List, ℕ, Ok, refl, sym, subst, ◌∙◌}
use Rattle.std.proofs.lemmas.List.{length-map}
use Rattle.std.proofs.lemmas.List.FromFn.{length-enumerate_from}
use Rattle.std.specs.List.{enumerate_from}
use Rattle.mx_manifest.specs.Plan.{Said}
use Rattle.mx_model.specs.State.{State, flat}
use Rattle.mx_boot.specs.Boot.{hart_at_boot, module_of, boot_state, boot_of}
use Rattle.mx_snapshot.specs.Kept.{IsOfPlan, kept_of}
use Rattle.mx_commands.proofs.PlanLaws.{boots, boots_of_plan}
use Rattle.mx_turns.specs.Running.{IsNew}
use Rattle.mx_commands.specs.Booting.{IsOfSize}

-- a state at boot has no texts
pub boots_new : (plan : Said) (images inputs : List (List ℕ)) (t : State) → boot_of plan images inputs ≡ Ok t → IsNew t
boots_new plan images inputs t is = rw (boots plan images inputs t is) (record { console = refl; notes = refl })

sized : (plan : Said) (images inputs : List (List ℕ)) → IsOfSize plan (flat (boot_state plan images inputs))
sized plan images inputs =
    record {
      words = refl;
      modules = length-map plan.modules module_of;
      harts = length-map (enumerate_from 0 plan.harts) (hart_at_boot plan images) ∙ length-enumerate_from 0 plan.harts;
      turns = refl;
    }

-- is of its plan's size, and a machine of its plan
pub boots_fresh : (plan : Said) (images inputs : List (List ℕ)) (t : State) → boot_of plan images inputs ≡ Ok t
    → IsOfSize plan (flat t) × IsOfPlan (kept_of plan) (flat t)
boots_fresh plan images inputs t is = (
  subst (λ (s : State). IsOfSize plan (flat s)) (sym (boots plan images inputs t is)) (sized plan images inputs),
  boots_of_plan plan images inputs t is,
)
