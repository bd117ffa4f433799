-- Where harts start, and the stack areas of modules, as the machine takes them.
use Rattle.std.specs.Prelude.{ℕ, List}
use Rattle.std.specs.Prelude.{map as list_map}
use Rattle.std.specs.Option.{option_map_or}
use Rattle.mx_machine.specs.declared.starts.HartStart.{HartStart}
use Rattle.mx_machine.specs.declared.starts.StackArea.{StackArea}
use Rattle.mx_manifest.specs.declared.parts.HartPlan.{HartPlan}
use Rattle.mx_manifest.specs.declared.parts.ModulePlan.{ModulePlan}
use Rattle.mx_manifest.specs.Plan.{Said}
use Rattle.mx_boot.specs.Areas.{stack_words}
use Rattle.mx_boot.specs.Entries.{word_at}
use Rattle.mx_boot.specs.Laid.{start_of}

-- a module's stack area, and whether it is killing
abbrev pub stack_area_of : ModulePlan → StackArea
stack_area_of plan =
    option_map_or
    (λ address. record { first = word_at address; words = stack_words plan; kills = plan.kills })
    plan.stack
    (record { first = 0; words = 0; kills = plan.kills })

abbrev pub stack_areas : Said → List StackArea
stack_areas plan = list_map stack_area_of plan.modules

-- where a hart starts
abbrev pub hart_start_of : (HartPlan → ℕ) → HartPlan → HartStart
hart_start_of pc hart = record { domain = hart.module; pc = pc hart }

abbrev pub hart_starts : Said → List (List ℕ) → List HartStart
hart_starts plan images = list_map (hart_start_of (start_of plan images)) plan.harts
