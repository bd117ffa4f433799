-- The parts of a plan without a fault belong together.
use Rattle.std.proofs.Common.{◌≡◌, inl, inr, ℕ, ◌+◌, ◌-◌, ◌≤◌, List, [], length, map, slice_get, Some, None, refl, sym, subst, arith}
use Rattle.std.specs.List.{AllByRecursion}
use Rattle.std.proofs.lemmas.Bool.{cases_lt}
use Rattle.std.proofs.lemmas.Bool.Decides.{nat_tests}
use Rattle.std.proofs.lemmas.List.{length-map, get_or_past}
use Rattle.std.proofs.lemmas.Option.{get_or_from_slice_get}
use Rattle.mx_words.specs.declared.perm.Perm.{Perm}
use Rattle.mx_words.specs.declared.tables.Kind.{Kind}
use Rattle.mx_words.specs.declared.tables.Need.{Need}
use Rattle.mx_words.specs.FirstFit.{Area}
use Rattle.mx_words.specs.Newest.{owners}
use Rattle.mx_words.proofs.OverlayLaws.{length-owners}
use Rattle.mx_check.specs.Calls.{new_harts}
use Rattle.mx_check.specs.Harts.{Kept}
use Rattle.mx_heap.specs.HeapState.{HeapState}
use Rattle.mx_model.specs.declared.values.Gate.{Gate}
use Rattle.mx_model.specs.Gates.{AreSingle}
use Rattle.mx_model.specs.Valid.{IsGate, IsHome}
use Rattle.mx_supervisor.specs.Heaps.{heap_at, no_heap, told_area, told_heap}
use Rattle.mx_supervisor.specs.Parts.{AreJoined, Parts}
use Rattle.mx_manifest.specs.declared.parts.ModulePlan.{ModulePlan}
use Rattle.mx_manifest.specs.InRange.{IsInRange}
use Rattle.mx_manifest.specs.Plan.{Said}
use Rattle.mx_boot.specs.Areas.{areas}
use Rattle.mx_boot.specs.Boot.{boot_ram, heap_of, limit_of, module_of}
use Rattle.mx_boot.specs.Entries.{requests}
use Rattle.mx_boot.specs.Faults.{ram_words, first_fault}
use Rattle.mx_boot.specs.Laid.{gate_of}
use Rattle.mx_boot.specs.Joined.{boot_maps, boot_owners, boot_parts, heap_state}
use Rattle.mx_boot.proofs.Apart.{all_inside}
use Rattle.mx_boot.proofs.Booted.{IsFaultless, faultless}
use Rattle.mx_boot.proofs.Gated.{few_gates, gates_valid, requests_asked, single_gates}
use Rattle.mx_boot.proofs.Homes.{length-homes}
use Rattle.mx_boot.proofs.Housed.{Inside, modules_valid}
use Rattle.mx_model.proofs.EachLaws.{all_at, all_unmapped, there}
use Rattle.mx_boot.proofs.RamBytes.{length-boot_ram}
use Rattle.mx_boot.proofs.Rows.{at_mapped}

-- an area of no words that begins at word 0 is told as it is
told : (a : Area) → (a.count ≡ 0 → a.first ≡ 0) → told_area a ≡ a
told a none = search (arith, a.count, nat_tests)

module _ (plan : Said) (images : List (List ℕ)) (in_range : IsInRange plan) (none : first_fault plan images ≡ None) where
  clear : IsFaultless plan images
  clear = faultless plan images none

  inside : Inside (ram_words plan) (areas plan images)
  inside = all_inside (ram_words plan) [] (areas plan images) clear.placed

  homes_valid : AllByRecursion (λ m. IsHome (ram_words plan) (length plan.harts) (module_of m)) plan.modules
  homes_valid = all_unmapped module_of (IsHome (ram_words plan) (length plan.harts)) plan.modules
      (modules_valid plan images (ram_words plan) in_range inside)

  pub heap-fits : (i : ℕ) (m : ModulePlan) → slice_get plan.modules i ≡ Some m → (heap_of m).first + (heap_of m).count ≤ ram_words plan
  heap-fits i m at = (all_at (λ m. IsHome (ram_words plan) (length plan.harts) (module_of m)) plan.modules i m homes_valid at).heap

  pub heap-small : (i : ℕ) (m : ModulePlan) → slice_get plan.modules i ≡ Some m → (heap_of m).first + (heap_of m).count ≤ 16777216
  heap-small i m at = let fits = heap-fits i m at in omega (arith, fits)

  pub heap-told : (i : ℕ) (m : ModulePlan) → slice_get plan.modules i ≡ Some m → told_heap (heap_state m) ≡ heap_state m
  heap-told i m at = search (arith, all_at, plan.modules, homes_valid)

  heap_within : (d : ℕ) → (heap_at (map heap_state plan.modules) d).area.first + (heap_at (map heap_state plan.modules) d).area.count
      ≤ ram_words plan
  heap_within d = elim (cases_lt (d - 1) (length plan.modules)) [
    | inl lt ↦ (
        let found = there plan.modules (d - 1) lt in
        let at = get_or_from_slice_get (map heap_state plan.modules) (d - 1) (heap_state found.0) no_heap
        (at_mapped heap_state plan.modules (d - 1) found.0 found.1) in
        subst (λ (h : HeapState). h.area.first + h.area.count ≤ ram_words plan) (sym at) (heap-fits (d - 1) found.0 found.1))
    | inr past ↦ (search (arith, length-map, plan.modules, get_or_past))
  ]

  pub length-maps : length (boot_maps plan images) ≡ length plan.modules
  length-maps = search (arith, length-map, length-homes)

  pub parts-joined : (inputs : List (List ℕ)) → AreJoined (boot_parts plan images inputs)
  parts-joined inputs = search (arith, length-boot_ram, length-owners, length-map, plan.modules, length-maps, heap_within)

  pub parts-gates : AllByRecursion (IsGate (length (boot_maps plan images)) (ram_words plan)) (map gate_of (requests plan images))
  parts-gates = search (arith, length-maps, gates_valid, inside, clear.asked, requests_asked)

  pub gates-single : AreSingle (map gate_of (requests plan images))
  gates-single = single_gates (areas plan images) (requests plan images) clear.asked

  pub gates-few : length (map gate_of (requests plan images)) ≤ 256
  gates-few = let few = few_gates (areas plan images) (requests plan images) clear.asked in
      omega (arith, length-map (requests plan images) gate_of, few)

-- parts one by one
pub parts-are : (plan : Said) (images inputs : List (List ℕ)) (kind : Kind) (maps : List (List Perm)) (size : ℕ) (limit : Need) (buffer : ℕ)
    (harts : List Kept) (ram owners : List ℕ) (gates : List Gate) (heaps : List HeapState)
    → kind ≡ plan.tables → maps ≡ boot_maps plan images → size ≡ ram_words plan → limit ≡ limit_of plan → buffer ≡ plan.lookaside
    → harts ≡ new_harts (length plan.harts)
    → ram ≡ boot_ram plan images inputs → owners ≡ boot_owners plan images → gates ≡ map gate_of (requests plan images)
    → heaps ≡ map heap_state plan.modules
    → (let p : Parts = record {
      kind = kind;
      maps = maps;
      size = size;
      limit = limit;
      buffer = buffer;
      harts = harts;
      ram = ram;
      owners =
          owners;
      gates = gates;
      heaps = heaps;
    } in p) ≡ boot_parts plan images inputs
parts-are plan images inputs kind maps size limit buffer harts ram owners gates heaps a b c d e f g h i j =
    rw (a, b, c, d, e, f, g, h, i, j) refl

-- gates that are the plan's, among maps and words that are its own
pub gates-hold : (plan : Said) (images : List (List ℕ)) (maps : List (List Perm)) (size : ℕ) (gates : List Gate) → IsInRange plan
    → first_fault plan images ≡ None → maps ≡ boot_maps plan images
    → size ≡ ram_words plan → gates ≡ map gate_of (requests plan images) → AllByRecursion (IsGate (length maps) size) gates
gates-hold plan images maps size gates in_range none a b c = rw (a, b, c) (parts-gates plan images in_range none)
