use Rattle.std.proofs.Common.{◌≡◌, ℕ, length, take, map}
use Rattle.mx_manifest.specs.declared.parts.HartPlan.{HartPlan}
use Rattle.mx_boot.specs.Starting.{hart_start_of}
use Rattle.mx_boot.proofs.machine.starts.Given as goal

abbrev pub invariant-harts : goal.invariant-harts
invariant-harts l = (length l.starts ≡ l.h) × ((pc : HartPlan → ℕ) → l.pcs ≡ map pc l.plan.harts
    → l.starts ≡ map (hart_start_of pc) (take l.h l.plan.harts))
