-- Modules of a plan without a fault: their areas lie in RAM.
use Rattle.std.proofs.Common.{◌≡◌, ℕ, ◌+◌, ◌*◌, ◌≤◌, true, false, cond, List, [], ◌∷◌, ◌++◌, length, map, slice_get, Option, Some, None}
use Rattle.std.proofs.Common.{IfSome, unwrap_or, Result, Ok, Err, refl, ap, arith}
use Rattle.std.specs.List.{AllByRecursion, enumerate_from, flat_map}
use Rattle.std.specs.Option.{is_some, option_map_or}
use Rattle.std.proofs.lemmas.List.{length-append, length-map}
use Rattle.std.proofs.lemmas.Option.{slice_get_within}
use Rattle.mx_elf.specs.declared.image.Image.{Image}
use Rattle.mx_elf.specs.declared.image.ImageFault.{ImageFault}
use Rattle.mx_elf.specs.Image.{image_of}
use Rattle.mx_elf.proofs.Sound.{sound-image}
use Rattle.mx_words.specs.FirstFit.{Area}
use Rattle.mx_words.specs.Newest.{Give, laid_at, newest, owner}
use Rattle.mx_words.specs.Ranges.{covers}
use Rattle.mx_model.specs.State.{Stack}
use Rattle.mx_model.specs.Valid.{IsHome}
use Rattle.mx_manifest.specs.declared.parts.InputPlan.{InputPlan}
use Rattle.mx_manifest.specs.declared.parts.ModulePlan.{ModulePlan}
use Rattle.mx_manifest.specs.InRange.{IsBetween, IsInRange}
use Rattle.mx_manifest.specs.InRange as range
use Rattle.mx_manifest.specs.Plan.{Said}
use Rattle.mx_boot.specs.declared.area.Area as area
use Rattle.mx_boot.specs.Areas.{Home, home, homes, image, read_as, pieces, heaps, stacks, input_areas, heap_words, stack_words, heap_area}
use Rattle.mx_boot.specs.Areas.{stack_area, input_area, areas_of, areas}
use Rattle.mx_boot.specs.Boot.{module_of, owned_pieces, give, gives_of}
use Rattle.mx_boot.specs.Entries.{word_at}
use Rattle.mx_boot.specs.Faults.{is_in_ram}
use Rattle.mx_boot.specs.Placed.{owned_areas}
use Rattle.mx_boot.proofs.Apart.{in_ram, end_is}
use Rattle.mx_boot.proofs.Homes.{home_is, length-homes}
use Rattle.mx_boot.proofs.Parted.{heap_part, stack_part, owned_part}
use Rattle.mx_model.proofs.EachLaws.{all_at, all_parts, all_flat, all_mapped, all_numbered, all_each, length-flat_at_most}
use Rattle.mx_machine.proofs.SmallLaws.{from-each}
use Rattle.mx_model.proofs.JoinLaws.{all-weaker, all-join}

abbrev pub Inside : ℕ → List area.Area → Type 0
Inside words all = AllByRecursion (λ a. is_in_ram words a ≡ true) all

-- the areas of each module
pub home_inside : (plan : Said) (images : List (List ℕ)) (words i : ℕ) (m : ModulePlan) → Inside words (areas plan images)
    → slice_get plan.modules i ≡ Some m
    → Inside words (areas_of (length plan.harts) (home images (i, m)))
home_inside plan images words i m all at =
    all_at (λ h. Inside words (areas_of (length plan.harts) h)) (homes plan images) i (home images (i, m))
    (all_parts (areas_of (length plan.harts)) (λ a. is_in_ram words a ≡ true) (homes plan images) all) (home_is plan images i m at)

-- an area that is there has words
pub has_words : (place words : Option ℕ) (most address : ℕ) → is_some place ≡ is_some words → IfSome words (IsBetween 1 most)
    → place ≡ Some address → 1 ≤ unwrap_or words 0
has_words place None most address whole h e = absurd (let f : is_some place ≡ true = ap is_some e in cc)
has_words place (Some words) most address whole h e = h.0

-- an area of no words at word 0, and one that lies in RAM
pub record IsKept (words first count reach : ℕ) : Type 0 where
  pub fits : first + reach ≤ words
  pub none : count ≡ 0 → first ≡ 0

heap_kept : (words : ℕ) (h : Home) (o : Option ℕ) → (h.plan.heap ≡ o) → is_some h.plan.heap ≡ is_some h.plan.heap_words
    → IfSome h.plan.heap_words (IsBetween 1 16777216)
    → Inside words (option_map_or (λ address. heap_area h address ∷ []) o [])
    → let a : Area = option_map_or (λ address. record { first = word_at address; count = heap_words h.plan }) o
    (record { first = 0; count = 0 }) in IsKept words a.first a.count a.count
heap_kept words h None e whole between inside = record { fits = omega arith; none = λ z. refl }
heap_kept words h (Some address) e whole between inside =
    let some = has_words h.plan.heap h.plan.heap_words 16777216 address whole between e in
    record {
      fits = end_is words (heap_area h address) (in_ram words (heap_area h address) inside.0);
      none = λ z. absurd (let q : ⊥ = omega (arith, some, z) in q);
    }

stack_kept : (words harts : ℕ) (h : Home) (o : Option ℕ) → (h.plan.stack ≡ o) → is_some h.plan.stack ≡ is_some h.plan.stack_words
    → IfSome h.plan.stack_words (IsBetween 1 1048576)
    → Inside words (option_map_or (λ address. stack_area harts h address ∷ []) o [])
    → let a : Stack = option_map_or (λ address. record { first = word_at address; words = stack_words h.plan }) o
    (record { first = 0; words = 0 }) in IsKept words a.first a.words (a.words * harts)
stack_kept words harts h None e whole between inside = record { fits = omega arith; none = λ z. refl }
stack_kept words harts h (Some address) e whole between inside =
    let some = has_words h.plan.stack h.plan.stack_words 1048576 address whole between e in
    record {
      fits = end_is words (stack_area harts h address) (in_ram words (stack_area harts h address) inside.0);
      none = λ z. absurd (let q : ⊥ = omega (arith, some, z) in q);
    }

pub module_valid : (words harts modules : ℕ) (h : Home) → range.IsModule modules h.domain h.plan → Inside words (areas_of harts h)
    → IsHome words harts (module_of h.plan)
module_valid words harts modules h in_range inside =
    let heap = heap_part (λ a. is_in_ram words a ≡ true) harts h inside in
    let stack = stack_part (λ a. is_in_ram words a ≡ true) harts h inside in
    search (
      arith,
      heap_kept,
      h.plan.heap,
      in_range.heap_whole,
      in_range.heap_words,
      stack_kept,
      h.plan.stack,
      in_range.stack_whole,
      in_range.stack_words,
    )

pub modules_valid : (plan : Said) (images : List (List ℕ)) (words : ℕ) → IsInRange plan → Inside words (areas plan images)
    → AllByRecursion (IsHome words (length plan.harts)) (map module_of plan.modules)
modules_valid plan images words in_range all =
    all_mapped module_of (IsHome words (length plan.harts)) plan.modules
    (from-each (λ m. IsHome words (length plan.harts) (module_of m)) plan.modules
    (λ i m at. module_valid words (length plan.harts) (length plan.modules) (home images (i, m)) (in_range.modules i m at)
    (home_inside plan images words i m all at)))

-- a module gives at most 19 areas
few_read : (bytes : List ℕ) (r : Result Image ImageFault) → r ≡ image_of bytes → length (read_as r).segments ≤ 16
few_read bytes (Ok image) e = (sound-image bytes image e).1
few_read bytes (Err fault) e = omega arith

few_pieces : (h : Home) → length (pieces h) ≤ 16
few_pieces h = search (arith, length-map, few_read, h.bytes)

few_owned : (h : Home) → length (owned_pieces h) ≤ 16
few_owned h = elim h.plan.seal as (λ b. length (cond b [] (pieces h)) ≤ 16) [ true ↦ omega arith | false ↦ few_pieces h ]

one_heap : (h : Home) (o : Option ℕ) → length (option_map_or (λ address. heap_area h address ∷ []) o []) ≤ 1
one_heap h None = omega arith
one_heap h (Some address) = omega arith

one_stack : (harts : ℕ) (h : Home) (o : Option ℕ) → length (option_map_or (λ address. stack_area harts h address ∷ []) o []) ≤ 1
one_stack harts h None = omega arith
one_stack harts h (Some address) = omega arith

one_input : (h : Home) (o : Option InputPlan) → length (option_map_or (λ input. input_area h input ∷ []) o []) ≤ 1
one_input h None = omega arith
one_input h (Some input) = omega arith

few_gives : (harts : ℕ) (h : Home) → length (gives_of harts h) ≤ 19
few_gives harts h =
    let owned = few_owned h in
    let heap = one_heap h h.plan.heap in
    let stack = one_stack harts h h.plan.stack in
    let input = one_input h h.plan.input in
    let first = length-append (owned_pieces h) (heaps h) in
    let second = length-append (owned_pieces h ++ heaps h) (stacks harts h) in
    let third = length-append (owned_pieces h ++ heaps h ++ stacks harts h) (input_areas h) in
    let given = length-map (owned_pieces h ++ heaps h ++ stacks harts h ++ input_areas h) give in
    omega (arith, owned, heap, stack, input, first, second, third, given)

pub few_gives_all : (plan : Said) (images : List (List ℕ)) → length (flat_map (gives_of (length plan.harts)) (homes plan images)) ≤ 19
    * length plan.modules
few_gives_all plan images =
    let few = length-flat_at_most (gives_of (length plan.harts)) 19 (homes plan images)
    (all_each (λ h. length (gives_of (length plan.harts) h) ≤ 19) (homes plan images) (few_gives (length plan.harts))) in
    omega (arith, few, length-homes plan images)

-- a module's areas are given to it
pieces_own : (h : Home) → AllByRecursion (λ (a : area.Area). a.domain ≡ h.domain) (pieces h)
pieces_own h = search (arith, all_mapped, all_each)

heap_own : (h : Home) (o : Option ℕ) → AllByRecursion (λ (a : area.Area). a.domain ≡ h.domain)
    (option_map_or (λ address. heap_area h address ∷ []) o [])
heap_own h None = tt
heap_own h (Some address) = (refl, tt)

stack_own : (harts : ℕ) (h : Home) (o : Option ℕ) → AllByRecursion (λ (a : area.Area). a.domain ≡ h.domain)
    (option_map_or (λ address. stack_area harts h address ∷ []) o [])
stack_own harts h None = tt
stack_own harts h (Some address) = (refl, tt)

input_own : (h : Home) (o : Option InputPlan) → AllByRecursion (λ (a : area.Area). a.domain ≡ h.domain)
    (option_map_or (λ input. input_area h input ∷ []) o [])
input_own h None = tt
input_own h (Some input) = (refl, tt)

areas_own : (harts : ℕ) (h : Home) → AllByRecursion (λ (a : area.Area). a.domain ≡ h.domain) (areas_of harts h)
areas_own harts h =
    let P : area.Area → Type 0 = λ a. a.domain ≡ h.domain in
    all-join P (pieces h ++ heaps h ++ stacks harts h) (input_areas h)
    (all-join P (pieces h ++ heaps h) (stacks harts h) (all-join P (pieces h) (heaps h) (pieces_own h) (heap_own h h.plan.heap))
    (stack_own harts h h.plan.stack))
    (input_own h h.plan.input)

gives_small : (harts modules : ℕ) (h : Home) → h.domain ≤ modules → AllByRecursion (λ (g : Give). g.value ≤ modules) (gives_of harts h)
gives_small harts modules h le =
    let all = owned_areas harts h in
    let own = owned_part (λ (a : area.Area). a.domain ≡ h.domain) harts h (areas_own harts h) in
    all_mapped give (λ (g : Give). g.value ≤ modules) all
    (all-weaker (λ (a : area.Area). a.domain ≡ h.domain) (λ (a : area.Area). a.domain ≤ modules) all (λ a same. omega (arith, same, le))
    own)

newest_small : (most d i : ℕ) (gives : List Give) → AllByRecursion (λ (g : Give). g.value ≤ most) gives → d ≤ most → newest d gives i ≤ most
newest_small most d i [] all le = le
newest_small most d i (g ∷ gives) all le =
    newest_small most (laid_at i d g) i gives all.1 (elim (covers g.first g.count i) as (λ b. cond b g.value d ≤ most) [
      | true ↦
          all.0
      | false ↦ le
    ])

pub owners_small : (plan : Said) (images : List (List ℕ)) (i : ℕ)
    → owner (flat_map (gives_of (length plan.harts)) (homes plan images)) i ≤ length plan.modules
owners_small plan images i =
    newest_small (length plan.modules) 0 i (flat_map (gives_of (length plan.harts)) (homes plan images))
    (all_flat (gives_of (length plan.harts)) (λ (g : Give). g.value ≤ length plan.modules) (homes plan images)
    (all_mapped (home images) (λ h. AllByRecursion (λ (g : Give). g.value ≤ length plan.modules) (gives_of (length plan.harts) h))
    (enumerate_from 0 plan.modules)
    (all_numbered (λ (p : ℕ × ModulePlan). AllByRecursion (λ (g : Give). g.value ≤ length plan.modules)
    (gives_of (length plan.harts) (home images p))) 0 plan.modules
    (λ k m at. gives_small (length plan.harts) (length plan.modules) (home images (0 + k, m)) (let below =
    slice_get_within plan.modules k m at in omega (arith, below))))))
    (omega arith)
