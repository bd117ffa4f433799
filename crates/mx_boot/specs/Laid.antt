-- What laying a plan out comes to.
use Rattle.std.specs.Prelude.{◌≡◌, ℕ, ◌++◌, ◌∷◌, [], List, map, Option, Some, None, unwrap_or, Result, Ok, Err}
use Rattle.mx_words.specs.FirstRow.{first_row}
use Rattle.mx_model.specs.declared.values.Gate.{Gate}
use Rattle.mx_manifest.specs.declared.fault.BootFault.{BootFault}
use Rattle.mx_manifest.specs.declared.parts.HartPlan.{HartPlan}
use Rattle.mx_manifest.specs.Plan.{Said}
use Rattle.mx_boot.specs.declared.area.Area.{Area}
use Rattle.mx_boot.specs.declared.gates.Request.{Request}
use Rattle.mx_boot.specs.declared.layout.Layout.{Layout}
use Rattle.mx_boot.specs.declared.refused.LayoutRefused.{LayoutRefused}
use Rattle.mx_boot.specs.declared.refused.LayoutRefused.TheVariants.{Fault, NoMemory}
use Rattle.mx_boot.specs.Areas.{areas}
use Rattle.mx_boot.specs.Entries.{requests, hart_start}
use Rattle.mx_boot.specs.Faults.{first_fault, at_hart, entry_rows, gates_rows, harts_rows}

-- what a refusal tells of the first fault of some tests: that it is this, or that memory ended before
abbrev pub Tells : Option BootFault → LayoutRefused → Type 0
Tells first (Fault fault) = first ≡ Some fault
Tells first NoMemory = Unit {0}

-- gates asked for after earlier ones: all are added, and none has a fault; or this is the first fault
abbrev pub gate_of : Request → Gate
gate_of r = r.gate

abbrev pub AreAsked : List Area → List Gate → List Request → List Gate →
    Result (Unit {0}) LayoutRefused → Type 0
AreAsked areas earlier requests later (Ok done) =
    (first_row (gates_rows areas earlier requests) ≡ None)
    × (later ≡ earlier ++ map gate_of requests)
AreAsked areas earlier requests later (Err refused) =
    Tells (first_row (gates_rows areas earlier requests)) refused

-- the first pc of a hart
abbrev pub start_of : Said → List (List ℕ) → HartPlan → ℕ
start_of plan images hart = unwrap_or (hart_start plan images hart) 0

-- a hart with its number from 1, its domain and the address that its entry means: its first pc is added, and it has no fault; or this
-- is its first fault
abbrev pub IsStarted : List Area → ℕ → ℕ → Option ℕ → List ℕ → List ℕ →
    Result (Unit {0}) LayoutRefused → Type 0
IsStarted areas number domain address earlier later (Ok done) =
    (first_row (entry_rows areas (at_hart number) domain address) ≡ None)
    × (later ≡ earlier ++ unwrap_or address 0 ∷ [])
IsStarted areas number domain address earlier later (Err refused) =
    Tells (first_row (entry_rows areas (at_hart number) domain address)) refused

-- all harts after earlier ones
abbrev pub AreStarted : Said → List (List ℕ) → List ℕ → List ℕ → Result (Unit {0}) LayoutRefused →
    Type 0
AreStarted plan images earlier later (Ok done) =
    (first_row (harts_rows plan images) ≡ None)
    × (later ≡ earlier ++ map (start_of plan images) plan.harts)
AreStarted plan images earlier later (Err refused) =
    Tells (first_row (harts_rows plan images)) refused

-- the layout of a plan without a fault: its areas, its gates, and the first pc of each hart
pub record IsLayout (plan : Said) (images : List (List ℕ)) (l : Layout) : Type 0 where
  pub faultless : first_fault plan images ≡ None
  pub areas : l.areas.items ≡ areas plan images
  pub gates : l.gates.items ≡ map gate_of (requests plan images)
  pub starts : l.starts.items ≡ map (start_of plan images) plan.harts

-- the layout exactly where there is no fault, or the first fault, or no memory
abbrev pub IsLaid : Said → List (List ℕ) → Result Layout LayoutRefused → Type 0
IsLaid plan images (Ok l) = IsLayout plan images l
IsLaid plan images (Err refused) = Tells (first_fault plan images) refused
