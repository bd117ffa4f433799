-- States at boot are valid.
use Rattle.std.proofs.Common.{◌≡◌, ℕ, zero, suc, ◌<◌, ◌≤◌, Bool, cond, List, [], length, get_or, replicate, Option, Some, None, Result, Ok}
use Rattle.std.proofs.Common.{Err, refl, ◌∙◌, sym, subst, arith, inl, inr}
use Rattle.std.specs.List.{AllByRecursion, enumerate_from}
use Rattle.std.proofs.lemmas.Bool.{cases_lt}
use Rattle.std.proofs.lemmas.List.{length-map, length-replicate, get_or_past}
use Rattle.std.proofs.lemmas.List.FromFn.{length-enumerate_from}
use Rattle.std.proofs.lemmas.Option.{get_or_from_slice_get}
use Rattle.mx_words.specs.Caches.{no_cache}
use Rattle.mx_words.specs.FirstRow.{first_row}
use Rattle.mx_words.specs.Need.{within}
use Rattle.mx_words.specs.Newest.{owners}
use Rattle.mx_words.specs.Newest.{map as map_of}
use Rattle.mx_words.proofs.OverlayLaws.{length-map_of, length-owners, owners-at}
use Rattle.mx_model.specs.Reads.{reads}
use Rattle.mx_model.specs.State.{Core, Hart, State, flat, hart_at, map_need, no_hart}
use Rattle.mx_model.specs.Valid.{IsCache, IsFlat, IsHart, IsValid}
use Rattle.mx_model.proofs.ValidCaches.{cache-none}
use Rattle.mx_laws.specs.OwnHeaps.{OwnHeaps}
use Rattle.mx_manifest.specs.declared.fault.BootFault.{BootFault}
use Rattle.mx_manifest.specs.InRange.{IsInRange}
use Rattle.mx_manifest.specs.Plan.{Said}
use Rattle.mx_boot.specs.Areas.{homes, areas}
use Rattle.mx_boot.specs.Boot.{Refusal, TooFull, boot_gives, boot_state, boot_of, grants_of, hart_at_boot, limited, module_of, unless}
use Rattle.mx_boot.specs.Entries.{requests}
use Rattle.mx_boot.specs.Faults.{harts_rows, ram_words, first_fault}
use Rattle.mx_boot.specs.Bytes.{AreBytes}
use Rattle.mx_boot.proofs.Apart.{AreClear, all_inside, areas_clear}
use Rattle.mx_boot.proofs.FewRuns.{runs-at-most}
use Rattle.mx_boot.proofs.Gated.{few_gates, gates_clear, gates_valid, requests_asked, single_gates}
use Rattle.mx_boot.proofs.Gated as gated
use Rattle.mx_boot.proofs.Harted.{hart_valid}
use Rattle.mx_boot.proofs.Homes.{length-homes}
use Rattle.mx_boot.proofs.Housed.{Inside, few_gives_all, modules_valid, owners_small}
use Rattle.mx_model.proofs.EachLaws.{all_each, all_mapped, there}
use Rattle.mx_boot.proofs.OwnHeaps.{heaps_own}
use Rattle.mx_boot.proofs.RamBytes.{length-boot_ram, small-boot_ram}
use Rattle.mx_boot.proofs.Rows.{at_counted, at_mapped}
use Rattle.mx_boot.proofs.Steps.{parts_clear}

-- what a boot tells of its plan
ok_limited : (s t : State) (b : Bool) (r : Refusal) → ◌≡◌ {A = Result State Refusal} (cond b (Ok t) (Err r)) (Ok s) → t ≡ s
ok_limited s t x r e = grind arith

ok_unless : (s t : State) (o : Option BootFault) → unless o (limited t) ≡ Ok s → (o ≡ None) × (t ≡ s)
ok_unless s t (Some fault) e = absurd cc
ok_unless s t None e = (refl, ok_limited s t (within (map_need t) t.core.limit) (TooFull (map_need t) t.core.limit) e)

pub booted : (plan : Said) (images inputs : List (List ℕ)) (s : State) → boot_of plan images inputs ≡ Ok s
    → (first_fault plan images ≡ None) × (boot_state plan images inputs ≡ s)
unfolding boot_of
booted plan images inputs s e = ok_unless s (boot_state plan images inputs) (first_fault plan images) e

-- what holds of a plan without a fault
pub record IsFaultless (plan : Said) (images : List (List ℕ)) : Type 0 where
  pub placed : AreClear (ram_words plan) [] (areas plan images)
  pub asked : gated.AreClear (areas plan images) [] (requests plan images)
  pub started : first_row (harts_rows plan images) ≡ None

pub faultless : (plan : Said) (images : List (List ℕ)) → first_fault plan images ≡ None → IsFaultless plan images
faultless plan images e =
    let parts = parts_clear plan images e in
    record {
      placed = areas_clear (ram_words plan) [] (areas plan images) parts.0;
      asked = gates_clear (areas plan images) [] (requests plan images) parts.1;
      started = parts.2;
    }

all_replicated : {X : Type 0} (P : X → Type 0) (n : ℕ) (x : X) → P x → AllByRecursion P (replicate n x)
all_replicated P zero x p = tt
all_replicated P (suc n) x p = (p, all_replicated P n x p)

module _ (plan : Said) (images inputs : List (List ℕ)) (in_range : IsInRange plan) (clear : IsFaultless plan images) where
  abbrev core : Core
  core = (boot_state plan images inputs).core

  few_words : ram_words plan ≤ 16777216
  few_words = omega arith

  inside : Inside (ram_words plan) (areas plan images)
  inside = all_inside (ram_words plan) [] (areas plan images) clear.placed

  length-modules : length core.modules ≡ length plan.modules
  length-modules = length-map plan.modules module_of

  length-harts : length core.harts ≡ length plan.harts
  length-harts = length-map (enumerate_from 0 plan.harts) (hart_at_boot plan images) ∙ length-enumerate_from 0 plan.harts

  harts_valid : (h : ℕ) → h < length core.harts → IsHart (length core.modules) (length core.harts) h (hart_at core h)
  harts_valid h lt =
      let found = there plan.harts h (omega (arith, lt, length-harts)) in
      let at = at_mapped (hart_at_boot plan images) (enumerate_from 0 plan.harts) h (h, found.0) (at_counted plan.harts h found.0 found.1)
      in
      let same : hart_at core h ≡ hart_at_boot plan images (h, found.0) =
      get_or_from_slice_get core.harts h (hart_at_boot plan images (h, found.0)) no_hart at in
      let valid = hart_valid plan images (ram_words plan) h found.0 in_range few_words inside clear.started found.1 in
      let one = subst (λ n. IsHart n (length plan.harts) h (hart_at_boot plan images (h, found.0))) (sym length-modules) valid in
      let two = subst (λ n. IsHart (length core.modules) n h (hart_at_boot plan images (h, found.0))) (sym length-harts) one in
      subst (λ (g : Hart). IsHart (length core.modules) (length core.harts) h g) (sym same) two

  core_valid : AreBytes images → AreBytes inputs → IsValid core
  core_valid are given =
      search (
        arith,
        few_words,
        few_gates,
        length-boot_ram,
        small-boot_ram,
        length-modules,
        length-harts,
        modules_valid,
        inside,
        harts_valid,
        length-replicate,
        length-map,
        gates_valid,
        clear.asked,
        requests_asked,
        single_gates,
      )

  owner_small : (i : ℕ) → get_or (owners (boot_gives plan images) (ram_words plan)) i 0 ≤ length core.modules
  owner_small i =
      let os = owners (boot_gives plan images) (ram_words plan) in
      let small : get_or os i 0 ≤ length plan.modules = elim (cases_lt i (ram_words plan)) [
        | inl lt ↦ rw (owners-at (boot_gives plan images) (ram_words plan) i 0 lt) (owners_small plan images i)
        | inr past ↦ (rw (get_or_past os i 0 (omega (arith, past, length-owners (boot_gives plan images) (ram_words plan)))) (omega arith))
      ] in
      omega (arith, small, length-modules)

  pub flat_valid : AreBytes images → AreBytes inputs → IsFlat (flat (boot_state plan images inputs))
  flat_valid are given =
      let s = boot_state plan images inputs in
      let harts = length plan.harts in
      let runs = runs-at-most s.gives (ram_words plan) in
      let few = few_gives_all plan images in
      record {
        valid = core_valid are given;
        maps = length-map s.grants (λ grants. map_of grants (ram_words plan)) ∙ length-map (homes plan images) (grants_of harts)
            ∙ length-homes plan images ∙ sym length-modules;
        whole_maps = search (arith, all_mapped, all_each, length-map_of);
        owners = length-owners s.gives (ram_words plan);
        small_owners = owner_small;
        few_runs = omega (arith, runs, few, in_range.module_count.1);
        caches = all_replicated (IsCache plan.lookaside) harts no_cache (cache-none plan.lookaside);
      }

  pub heaps_owned : OwnHeaps (reads (boot_state plan images inputs)) core
  heaps_owned d word is over = heaps_own plan images (ram_words plan) clear.placed d word is over

pub boots_valid : (plan : Said) (images inputs : List (List ℕ)) (s : State) → IsInRange plan → AreBytes images → AreBytes inputs
    → boot_of plan images inputs ≡ Ok s → IsFlat (flat s)
boots_valid plan images inputs s in_range are given e =
    let b = booted plan images inputs s e in
    subst (λ (t : State). IsFlat (flat t)) b.1 (flat_valid plan images inputs in_range (faultless plan images b.0) are given)

lists_are : (plan : Said) (images inputs : List (List ℕ)) →
    length (boot_state plan images inputs).grants ≡ length (boot_state plan images inputs).core.modules
lists_are plan images inputs =
    length-map (homes plan images) (grants_of (length plan.harts)) ∙ length-homes plan images
    ∙ sym (length-map plan.modules module_of)

pub boots_list : (plan : Said) (images inputs : List (List ℕ)) (s : State) → boot_of plan images inputs ≡ Ok s →
    length s.grants ≡ length s.core.modules
boots_list plan images inputs s e =
    subst (λ (t : State). length t.grants ≡ length t.core.modules) (booted plan images inputs s e).1 (lists_are plan images inputs)

pub boots_own : (plan : Said) (images inputs : List (List ℕ)) (s : State) → IsInRange plan → boot_of plan images inputs ≡ Ok s
    → OwnHeaps (reads s) s.core
boots_own plan images inputs s in_range e =
    let b = booted plan images inputs s e in
    subst (λ (t : State). OwnHeaps (reads t) t.core) b.1 (heaps_owned plan images inputs in_range (faultless plan images b.0))
