-- Boots that differ in the inputs of some modules, and the modules that are given the same in both.
-- The rules: docs/MACHINE.md, "Memory, domains, harts".
use Rattle.std.specs.Prelude.{◌≡◌, ◌⊎◌, ℕ, ◌-◌, true, List, [], map, slice_get, slice_index_or, option_map, Some, Ok}
use Rattle.std.specs.Option.{option_map_or}
use Rattle.mx_words.specs.declared.perm.Perm.TheVariants as P
use Rattle.mx_words.specs.Ranges.{covers}
use Rattle.mx_manifest.specs.declared.parts.InputPlan.{InputPlan}
use Rattle.mx_manifest.specs.declared.parts.ModulePlan.{ModulePlan}
use Rattle.mx_manifest.specs.InRange.{IsInRange}
use Rattle.mx_manifest.specs.Plan.{Said}
use Rattle.mx_model.specs.Reads.{reads}
use Rattle.mx_model.specs.State.{State}
use Rattle.mx_boot.specs.Areas.{Content, placed_input}
use Rattle.mx_boot.specs.Boot.{boot_of}
use Rattle.mx_boot.specs.Entries.{word_at}
use Rattle.mx_boot.specs.Inputs.{AreInputs}

-- an input, a module and a plan without the names of the files of inputs
abbrev pub unnamed_input : InputPlan → InputPlan
unnamed_input input = record input { file = [] }

abbrev pub unnamed_module : ModulePlan → ModulePlan
unnamed_module m = record m { input = option_map unnamed_input m.input }

abbrev pub unnamed : Said → Said
unnamed plan = record plan { modules = map unnamed_module plan.modules }

-- two plans that differ in these names alone, with the same images, boot to these states
pub record AreBoots (p q : Said) (images left right : List (List ℕ)) (s t : State) : Type 0 where
  pub in_range : IsInRange p
  pub alike : unnamed p ≡ unnamed q
  pub fit : AreInputs p left
  pub fit_too : AreInputs q right
  pub first : boot_of p images left ≡ Ok s
  pub second : boot_of q images right ≡ Ok t

-- what the input of the module with a domain puts into RAM: nothing where it has none
abbrev pub given : Said → List (List ℕ) → ℕ → List Content
given plan inputs d =
    option_map_or (λ m. placed_input inputs (d - 1, m)) (slice_get plan.modules (d - 1)) []

-- it is the same in both
abbrev pub HasSameInput : Said → List (List ℕ) → List (List ℕ) → ℕ → Type 0
HasSameInput plan left right d = given plan left d ≡ given plan right d

-- the input of each module is the same in both, or a domain has no right in a state on any word of its area
abbrev pub HasNoRightWhereTheyDiffer : Said → List (List ℕ) → List (List ℕ) → State → ℕ → Type 0
HasNoRightWhereTheyDiffer plan left right s d =
    (i : ℕ) (m : ModulePlan) (input : InputPlan) → slice_get plan.modules i ≡ Some m →
    m.input ≡ Some input → (slice_index_or left i [] ≡ slice_index_or right i [])
    ⊎ ((word : ℕ) → covers (word_at input.address) input.words word ≡ true →
    (reads s).perm d word ≡ P.None)
