-- Where harts begin, one after the other.
use Rattle.std.proofs.Common.{◌≡◌, ℕ, ◌+◌, ◌-◌, ◌≤◌, List, [], ◌∷◌, ◌++◌, length, take, map, slice_get, Option, Some, None, unwrap_or, ap}
use Rattle.std.proofs.Common.{◌∙◌, sym, arith}
use Rattle.std.specs.List.{enumerate_from}
use Rattle.std.specs.Prelude.{option_and_then}
use Rattle.std.proofs.lemmas.List.FromFn.{length-enumerate_from}
use Rattle.std.proofs.lemmas.List.{take_all}
use Rattle.mx_words.specs.FirstRow.{first_row}
use Rattle.mx_manifest.specs.declared.fault.BootFault.{BootFault}
use Rattle.mx_manifest.specs.declared.parts.HartPlan.{HartPlan}
use Rattle.mx_manifest.specs.Plan.{Said}
use Rattle.mx_boot.specs.declared.area.Area.{Area}
use Rattle.mx_boot.specs.declared.refused.LayoutRefused.{LayoutRefused}
use Rattle.mx_boot.specs.declared.refused.LayoutRefused.TheVariants.{Fault, NoMemory}
use Rattle.mx_boot.specs.Areas.{Home, homes, areas}
use Rattle.mx_boot.specs.Entries.{hart_start, start_address}
use Rattle.mx_boot.specs.Faults.{at_hart, entry_rows, hart_rows, harts_rows}
use Rattle.mx_boot.specs.Laid.{Tells, start_of}
use Rattle.mx_boot.proofs.Rows.{at_numbered, first_from, first_here, first_next, first_end, grown_by_one}

module _ (plan : Said) (images : List (List ℕ)) (hart : HartPlan) (h : Home) (at : slice_get (homes plan images) (hart.module - 1) ≡ Some h)
  where
    start_is : start_address h hart.entry ≡ hart_start plan images hart
    start_is = ap (λ o. option_and_then (λ (g : Home). start_address g hart.entry) o) (sym at)

    -- the rows of a hart are those of the address at which it begins in its module
    pub hart_rows_are : (all : List Area) (number : ℕ) → all ≡ areas plan images
        → first_row (entry_rows all (at_hart number) hart.module (start_address h hart.entry))
        ≡ first_row (hart_rows plan images (number, hart))
    hart_rows_are all number e =
        ap (λ o. first_row (entry_rows all (at_hart number) hart.module o)) start_is
        ∙ ap (λ all. first_row (entry_rows all (at_hart number) hart.module (hart_start plan images hart))) e

    pub pc_is : unwrap_or (start_address h hart.entry) 0 ≡ start_of plan images hart
    pc_is = ap (λ o. unwrap_or o 0) start_is

at_hart_number : (plan : Said) (i : ℕ) (hart : HartPlan) → slice_get plan.harts i ≡ Some hart
    → slice_get (enumerate_from 1 plan.harts) i ≡ Some (i + 1, hart)
at_hart_number plan i hart at = search (arith, at_numbered, plan.harts)

-- the faults of harts from a place on
abbrev pub harts_from : Said → List (List ℕ) → ℕ → Option BootFault
harts_from plan images i = first_from (hart_rows plan images) i (enumerate_from 1 plan.harts)

-- the harts before a place have no fault, and their pcs are added
pub record IsSoFar (plan : Said) (images : List (List ℕ)) (i : ℕ) (old items : List ℕ) : Type 0 where
  pub faults : harts_from plan images i ≡ harts_from plan images 0
  pub added : items ≡ old ++ map (start_of plan images) (take i plan.harts)

module _ (plan : Said) (images : List (List ℕ)) (i : ℕ) (hart : HartPlan) (at : slice_get plan.harts i ≡ Some hart) where
  pub harts_next : (old items new : List ℕ) (pc : ℕ) → first_row (hart_rows plan images (i + 1, hart)) ≡ None
      → pc ≡ start_of plan images hart
      → new ≡ items ++ pc ∷ [] → IsSoFar plan images i old items → IsSoFar plan images (i + 1) old new
  harts_next old items new pc none is push so_far = record {
    faults = first_next (hart_rows plan images) (enumerate_from 1 plan.harts) i (i + 1, hart) (at_hart_number plan i hart at) none
        ∙ so_far.faults;
    added = grown_by_one (start_of plan images) plan.harts i hart old items new pc at so_far.added is push;
  }

  pub harts_stop : (old items : List ℕ) (refused : LayoutRefused) → Tells (first_row (hart_rows plan images (i + 1, hart))) refused
      → IsSoFar plan images i old items → Tells (first_row (harts_rows plan images)) refused
  harts_stop old items (Fault fault) told so_far =
      sym so_far.faults ∙ first_here (hart_rows plan images) (enumerate_from 1 plan.harts) i (i + 1, hart) fault
      (at_hart_number plan i hart at) told
  harts_stop old items NoMemory told so_far = tt

pub harts_end : (plan : Said) (images : List (List ℕ)) (i : ℕ) (old items : List ℕ) → length plan.harts ≤ i
    → IsSoFar plan images i old items
    → (first_row (harts_rows plan images) ≡ None) × (items ≡ old ++ map (start_of plan images) plan.harts)
harts_end plan images i old items past so_far =
    let all : length (enumerate_from 1 plan.harts) ≤ i = omega (arith, length-enumerate_from 1 plan.harts) in (
      sym so_far.faults ∙ first_end (hart_rows plan images) (enumerate_from 1 plan.harts) i all,
      so_far.added ∙ ap (λ hs. old ++ map (start_of plan images) hs) (take_all i plan.harts past),
    )
