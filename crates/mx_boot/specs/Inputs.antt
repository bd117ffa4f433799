-- The inputs of a plan's modules, one for each module; that of a module without one is empty.
-- The rules: docs/MACHINE.md, "Memory, domains, harts".
use Rattle.std.specs.Prelude.{◌≡◌, ℕ, ◌+◌, ◌*◌, ◌≤◌, List, [], length, slice_get, slice_index_or, Some, IfSome}
use Rattle.mx_manifest.specs.declared.parts.InputPlan.{InputPlan}
use Rattle.mx_manifest.specs.declared.parts.ModulePlan.{ModulePlan}
use Rattle.mx_manifest.specs.Plan.{Said}

-- an input fits its area, behind the word that tells its size
abbrev pub FitsArea : InputPlan → List ℕ → Type 0
FitsArea input bytes = 4 + length bytes ≤ 4 * input.words

-- each does
pub record AreInputs (plan : Said) (inputs : List (List ℕ)) : Type 0 where
  pub fit : (i : ℕ) (m : ModulePlan) → slice_get plan.modules i ≡ Some m →
      IfSome m.input (λ input. FitsArea input (slice_index_or inputs i []))
