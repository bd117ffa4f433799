-- What the modules of a plan without a fault bring: areas apart in RAM, each of some words, and bytes that lie there.
use Rattle.std.proofs.Common.{◌≡◌, ℕ, ◌*◌, ◌%◌, ◌<◌, ◌≤◌, true, false, cond, List, [], ◌∷◌, ◌++◌, length, map, take, drop, slice_get}
use Rattle.std.proofs.Common.{Option, Some, None, IfSome, unwrap_or, Result, Ok, Err, refl, subst, arith, mul-le-mul_left, length-take}
use Rattle.std.proofs.Common.{get_or}
use Rattle.std.proofs.lemmas.List.{length-append}
use Rattle.std.specs.List.{AllByRecursion, enumerate_from, flat_map}
use Rattle.std.specs.Option.{is_some, option_map_or}
use Rattle.mx_elf.specs.declared.image.Image.{Image}
use Rattle.mx_elf.specs.declared.image.ImageFault.{ImageFault}
use Rattle.mx_elf.specs.declared.segment.Seg.{Seg}
use Rattle.mx_elf.specs.Image.{IsSound, image_of}
use Rattle.mx_elf.specs.Segment.{word_count}
use Rattle.mx_elf.proofs.Sound.{sound-image}
use Rattle.mx_manifest.specs.declared.parts.InputPlan.{InputPlan}
use Rattle.mx_manifest.specs.declared.parts.ModulePlan.{ModulePlan}
use Rattle.mx_manifest.specs.InRange.{IsAligned, IsBetween, IsInRange}
use Rattle.mx_manifest.specs.InRange as range
use Rattle.mx_manifest.specs.Plan.{Said}
use Rattle.mx_boot.specs.declared.area.Area.{Area}
use Rattle.mx_boot.specs.Areas.{Home, home, homes, has_image, image, read_as, pieces, segment_area, inline_area, inline_address, word_bytes}
use Rattle.mx_boot.specs.Areas.{stack_words, heap_area, stack_area, input_area, heaps, stacks, input_areas, areas_of, areas, contents}
use Rattle.mx_boot.specs.Areas.{segment_content, inline_content, input_content}
use Rattle.mx_boot.specs.Faults.{first_fault, is_in_ram, ram_words}
use Rattle.mx_boot.specs.Inputs.{AreInputs, FitsArea}
use Rattle.mx_boot.specs.Placed.{ArePlaced, HasRoom, IsApart, IsPlaced, granted_areas, owned_areas}
use Rattle.mx_boot.proofs.Apart.{AreClear, all_inside, apart_at, in_ram}
use Rattle.mx_boot.proofs.Booted.{faultless}
use Rattle.mx_boot.proofs.Homes.{home_is}
use Rattle.mx_boot.proofs.Housed.{has_words}
use Rattle.mx_boot.proofs.Parted.{granted_part, owned_part, piece_part, input_part}
use Rattle.mx_model.proofs.EachLaws.{all_at, all_both, all_flat, all_mapped, all_numbered, all_parts, all_unmapped}
use Rattle.mx_machine.proofs.SmallLaws.{from-each}
use Rattle.mx_model.proofs.JoinLaws.{all-weaker, all-join}

-- what holds of all areas holds of those of a module
pub home_all : (P : Area → Type 0) (plan : Said) (images : List (List ℕ)) (i : ℕ) (m : ModulePlan) → AllByRecursion P (areas plan images)
    → slice_get plan.modules i ≡ Some m
    → AllByRecursion P (areas_of (length plan.harts) (home images (i, m)))
home_all P plan images i m all at =
    all_at (λ h. AllByRecursion P (areas_of (length plan.harts) h)) (homes plan images) i (home images (i, m))
    (all_parts (areas_of (length plan.harts)) P (homes plan images) all) (home_is plan images i m at)

-- each area has words
abbrev HasWords : Area → Type 0
HasWords a = 0 < a.count

read_sound : (bytes : List ℕ) (r : Result Image ImageFault) → r ≡ image_of bytes
    → AllByRecursion (IsSound (length bytes)) (read_as r).segments
read_sound bytes (Ok image) e = (sound-image bytes image e).0
read_sound bytes (Err fault) e = tt

segments_sound : (h : Home) → AllByRecursion (IsSound (length h.bytes)) (image h).segments
segments_sound h = read_sound h.bytes (image_of h.bytes) refl

segment_words : (s : Seg) → 0 < s.memory → 0 < word_count s
segment_words s some = omega (arith, some)

inline_some : (o : Option (List ℕ)) → is_some o ≡ true → IfSome o (λ words. IsBetween 1 65536 (length words)) → 0 < length (unwrap_or o [])
inline_some None there h = absurd (let q : ⊥ = cc in q)
inline_some (Some words) there h = let low = h.0 in omega (arith, low)

pieces_some : (modules : ℕ) (h : Home) → range.IsModule modules h.domain h.plan → AllByRecursion HasWords (pieces h)
pieces_some modules h in_range =
    search (arith, HasWords, all_mapped, all-weaker, segment_words, segments_sound, inline_some, h.plan.words)

heaps_some : (h : Home) (o : Option ℕ) → h.plan.heap ≡ o → is_some h.plan.heap ≡ is_some h.plan.heap_words
    → IfSome h.plan.heap_words (IsBetween 1 16777216)
    → AllByRecursion HasWords (option_map_or (λ address. heap_area h address ∷ []) o [])
heaps_some h None e whole between = tt
heaps_some h (Some address) e whole between = (
  let some = has_words h.plan.heap h.plan.heap_words 16777216 address whole between e in
      omega (arith, some),
  tt,
)

stacks_some : (harts : ℕ) (h : Home) (o : Option ℕ) → 1 ≤ harts → h.plan.stack ≡ o → is_some h.plan.stack ≡ is_some h.plan.stack_words
    → IfSome h.plan.stack_words (IsBetween 1 1048576)
    → AllByRecursion HasWords (option_map_or (λ address. stack_area harts h address ∷ []) o [])
stacks_some harts h None one e whole between = tt
stacks_some harts h (Some address) one e whole between = (
  (let some = has_words h.plan.stack h.plan.stack_words 1048576 address whole between e in
      let more : stack_words h.plan * 1 ≤ stack_words h.plan * harts = mul-le-mul_left (stack_words h.plan) one in
      omega (arith, some, more)),
  tt,
)

inputs_some : (h : Home) (o : Option InputPlan) → IfSome o range.IsInput
    → AllByRecursion HasWords (option_map_or (λ input. input_area h input ∷ []) o [])
inputs_some h None in_range = tt
inputs_some h (Some input) in_range = ((let some = in_range.words.0 in omega (arith, some)), tt)

areas_some : (modules harts : ℕ) (h : Home) → range.IsModule modules h.domain h.plan → 1 ≤ harts
    → AllByRecursion HasWords (areas_of harts h)
areas_some modules harts h in_range one =
    all-join HasWords (pieces h ++ heaps h ++ stacks harts h) (input_areas h)
    (all-join HasWords (pieces h ++ heaps h) (stacks harts h)
    (all-join HasWords (pieces h) (heaps h) (pieces_some modules h in_range)
    (heaps_some h h.plan.heap refl in_range.heap_whole in_range.heap_words))
    (stacks_some harts h h.plan.stack one refl in_range.stack_whole in_range.stack_words))
    (inputs_some h h.plan.input in_range.input)

-- the bytes of a loaded segment or of inline words lie in its area
pub length-word_bytes : (words : List ℕ) → length (flat_map word_bytes words) ≡ 4 * length words
length-word_bytes [] = refl
length-word_bytes (w ∷ words) = let rest = length-word_bytes words in omega (arith, rest)

segment_room : (words : ℕ) (h : Home) (s : Seg) → IsSound (length h.bytes) s → is_in_ram words (segment_area h s) ≡ true
    → HasRoom (4 * words) (segment_content h.bytes s)
segment_room words h s sound inside =
    let to = (in_ram words (segment_area h s) inside).to in
    let long : length (take s.file (drop s.offset h.bytes)) ≤ s.file = omega (arith, length-take s.file (drop s.offset h.bytes)) in
    let held = sound.held in
    let aligned = sound.aligned in
    search (arith, s.address, s.memory, s.file, s.offset)

inline_room : (words : ℕ) (h : Home) → inline_address h.plan % 4 ≡ 0 → is_in_ram words (inline_area h) ≡ true
    → HasRoom (4 * words) (inline_content h.plan)
inline_room words h aligned inside = search (arith, in_ram, length-word_bytes)

contents_room : (words : ℕ) (h : Home) → inline_address h.plan % 4 ≡ 0 → AllByRecursion (λ a. is_in_ram words a ≡ true) (pieces h)
    → AllByRecursion (HasRoom (4 * words)) (contents h)
contents_room words h aligned all = elim (has_image h) as (λ b.
    AllByRecursion (λ a. is_in_ram words a ≡ true) (cond b (map (segment_area h) (image h).segments) (inline_area h ∷ []))
    → AllByRecursion (HasRoom (4 * words)) (cond b (map (segment_content h.bytes) (image h).segments) (inline_content h.plan ∷ []))) [
      | true ↦ λ k. all_mapped (segment_content h.bytes) (HasRoom (4 * words)) (image h).segments
          (all-weaker (λ s. IsSound (length h.bytes) s × (is_in_ram words (segment_area h s) ≡ true)) (λ s.
          HasRoom (4 * words) (segment_content h.bytes s)) (image h).segments
          (λ s both. segment_room words h s both.0 both.1)
          (all_both (IsSound (length h.bytes)) (λ s. is_in_ram words (segment_area h s) ≡ true) (image h).segments (segments_sound h)
          (all_unmapped (segment_area h) (λ a. is_in_ram words a ≡ true) (image h).segments k)))
      | false ↦ λ k. (inline_room words h aligned k.0, tt)
    ] all

-- and so do those of an input that fits it
input_room : (words : ℕ) (h : Home) (bytes : List ℕ) (o : Option InputPlan) → IfSome o range.IsInput
    → IfSome o (λ input. FitsArea input bytes)
    → AllByRecursion (λ a. is_in_ram words a ≡ true) (option_map_or (λ input. input_area h input ∷ []) o [])
    → IfSome o (λ input. HasRoom (4 * words) (input_content bytes input))
input_room words h bytes None in_range fits inside = tt
input_room words h bytes (Some input) in_range fits inside =
    let r = in_ram words (input_area h input) inside.0 in
    let from = r.from in
    let to = r.to in
    let aligned = in_range.address.0 in
    let long = length-append (word_bytes (length bytes)) bytes in
    record { from = from; to = omega (arith, from, to, aligned, long, fits) }

pub aligned_input : (o : Option InputPlan) → IfSome o range.IsInput → IfSome o (λ input. input.address % 4 ≡ 0)
aligned_input None h = tt
aligned_input (Some input) h = h.address.0

inline_aligned : (o : Option ℕ) → IfSome o IsAligned → unwrap_or o 0 % 4 ≡ 0
inline_aligned None h = refl
inline_aligned (Some address) h = h.0

-- a module that is ready to boot
pub record IsReady (words harts : ℕ) (h : Home) : Type 0 where
  pub granted : ArePlaced words (granted_areas harts h)
  pub owned : AllByRecursion (IsPlaced words) (owned_areas harts h)
  pub room : AllByRecursion (HasRoom (4 * words)) (contents h)
  pub aligned : inline_address h.plan % 4 ≡ 0

module _ (plan : Said) (images : List (List ℕ)) (in_range : IsInRange plan) (clear : AreClear (ram_words plan) [] (areas plan images)) where
  placed : (i : ℕ) (m : ModulePlan) → slice_get plan.modules i ≡ Some m
      → AllByRecursion (IsPlaced (ram_words plan)) (areas_of (length plan.harts) (home images (i, m)))
  placed i m at =
      let h = home images (i, m) in
      all-weaker (λ a. (is_in_ram (ram_words plan) a ≡ true) × HasWords a) (IsPlaced (ram_words plan)) (areas_of (length plan.harts) h)
      (λ a both. record { inside = both.0; some = both.1 })
      (all_both (λ a. is_in_ram (ram_words plan) a ≡ true) HasWords (areas_of (length plan.harts) h)
      (home_all (λ a. is_in_ram (ram_words plan) a ≡ true) plan images i m (all_inside (ram_words plan) [] (areas plan images) clear) at)
      (areas_some (length plan.modules) (length plan.harts) h (in_range.modules i m at) in_range.hart_count.0))

  all_apart : AllByRecursion (IsApart (areas plan images)) (areas plan images)
  all_apart = from-each (IsApart (areas plan images)) (areas plan images) (λ i a at.
      apart_at (ram_words plan) [] (areas plan images) clear i a at)

  granted_apart : (i : ℕ) (m : ModulePlan) → slice_get plan.modules i ≡ Some m
      → AllByRecursion (IsApart (granted_areas (length plan.harts) (home images (i, m))))
      (granted_areas (length plan.harts) (home images (i, m)))
  granted_apart i m at = search (arith, granted_part, all-weaker, home_all, all_apart)

  pub module_ready : (i : ℕ) (m : ModulePlan) → slice_get plan.modules i ≡ Some m
      → IsReady (ram_words plan) (length plan.harts) (home images (i, m))
  module_ready i m at =
      let h = home images (i, m) in
      let harts = length plan.harts in
      let all = placed i m at in
      let aligned = inline_aligned m.at (in_range.modules i m at).at in
      record {
        granted = record { each = granted_part (IsPlaced (ram_words plan)) harts h all; apart = granted_apart i m at };
        owned = owned_part (IsPlaced (ram_words plan)) harts h all;
        room = contents_room (ram_words plan) h aligned (piece_part (λ a. is_in_ram (ram_words plan) a ≡ true) harts h
            (home_all (λ a. is_in_ram (ram_words plan) a ≡ true) plan images i m (all_inside (ram_words plan) [] (areas plan images) clear)
            at));
        aligned = aligned;
      }

  pub homes_ready : AllByRecursion (IsReady (ram_words plan) (length plan.harts)) (homes plan images)
  homes_ready = all_mapped (home images) (IsReady (ram_words plan) (length plan.harts)) (enumerate_from 0 plan.modules)
      (all_numbered (λ (p : ℕ × ModulePlan). IsReady (ram_words plan) (length plan.harts) (home images p)) 0 plan.modules
      (λ i m at. subst (λ k. IsReady (ram_words plan) (length plan.harts) (home images (k, m))) (omega arith) (module_ready i m at)))

-- no bytes fit every area
empty_in : (o : Option InputPlan) → IfSome o range.IsInput → IfSome o (λ input. FitsArea input [])
empty_in None in_range = tt
empty_in (Some input) in_range = let some = in_range.words.0 in omega (arith, some)

pub empty_fit : (plan : Said) → IsInRange plan → AreInputs plan []
empty_fit plan in_range = record { fit = λ i m at. empty_in m.input (in_range.modules i m at).input }

-- the input of each module has room where its area lies
pub inputs_room : (plan : Said) (images inputs : List (List ℕ)) → IsInRange plan → first_fault plan images ≡ None → AreInputs plan inputs
    → (i : ℕ) (m : ModulePlan) → slice_get plan.modules i ≡ Some m
    → IfSome m.input (λ input. HasRoom (4 * ram_words plan) (input_content (get_or inputs i []) input))
inputs_room plan images inputs in_range none are i m at =
    let h = home images (i, m) in
    let inside = all_inside (ram_words plan) [] (areas plan images) (faultless plan images none).placed in
    input_room (ram_words plan) h (get_or inputs i []) m.input (in_range.modules i m at).input (are.fit i m at)
    (input_part (λ a. is_in_ram (ram_words plan) a ≡ true) (length plan.harts) h
    (home_all (λ a. is_in_ram (ram_words plan) a ≡ true) plan images i m inside at))

pub ready : (plan : Said) (images : List (List ℕ)) → IsInRange plan → first_fault plan images ≡ None → (i : ℕ) (h : Home)
    → slice_get (homes plan images) i ≡ Some h → IsReady (ram_words plan) (length plan.harts) h
ready plan images in_range none i h at =
    all_at (IsReady (ram_words plan) (length plan.harts)) (homes plan images) i h
    (homes_ready plan images in_range (faultless plan images none).placed) at

-- what all modules own lies in RAM
pub owned_placed : (plan : Said) (images : List (List ℕ)) → IsInRange plan → first_fault plan images ≡ None
    → AllByRecursion (IsPlaced (ram_words plan)) (flat_map (owned_areas (length plan.harts)) (homes plan images))
owned_placed plan images in_range none =
    all_flat (owned_areas (length plan.harts)) (IsPlaced (ram_words plan)) (homes plan images)
    (all-weaker (IsReady (ram_words plan) (length plan.harts)) (λ h.
    AllByRecursion (IsPlaced (ram_words plan)) (owned_areas (length plan.harts) h)) (homes plan images) (λ h is. is.owned)
    (homes_ready plan images in_range (faultless plan images none).placed))
