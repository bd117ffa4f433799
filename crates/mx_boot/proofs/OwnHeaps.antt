-- The heap areas of a plan without a fault belong to their modules.
use Rattle.std.proofs.Common.{◌≡◌, ◌⊎◌, inl, inr, ℕ, zero, suc, ◌+◌, ◌-◌, ◌<◌, true, false, nat_lt, List, [], ◌∷◌, ◌++◌, length, map}
use Rattle.std.proofs.Common.{get_or, slice_get, Option, Some, None, refl, ap, ◌∙◌, sym, subst, arith, if◌then◌else◌}
use Rattle.std.specs.List.{AllByRecursion, flat_map}
use Rattle.std.specs.Option.{option_map_or}
use Rattle.std.proofs.lemmas.Bool.Decides.{nat_tests}
use Rattle.std.proofs.lemmas.List.{length-map}
use Rattle.std.proofs.lemmas.Option.{same_Some, get_or_from_slice_get}
use Rattle.std.proofs.lemmas.Map.Keys.{any_passes_from_place}
use Rattle.mx_words.specs.FirstFit.{Area}
use Rattle.mx_words.specs.Newest.{Give, owner}
use Rattle.mx_words.specs.Ranges.{covers}
use Rattle.mx_words.proofs.OverlayLaws.{covers_from}
use Rattle.mx_model.specs.State.{Module, no_module}
use Rattle.mx_model.specs.Valid.{IsModule}
use Rattle.mx_manifest.specs.declared.parts.ModulePlan.{ModulePlan}
use Rattle.mx_manifest.specs.Plan.{Said}
use Rattle.mx_boot.specs.declared.area.Area as area
use Rattle.mx_boot.specs.Areas.{Home, home, homes, pieces, heap_words, heap_area, heaps, stacks, input_areas, areas_of, areas}
use Rattle.mx_boot.specs.Boot.{heap_of, module_of, owned_pieces, gives_of, give}
use Rattle.mx_boot.specs.Entries.{word_at}
use Rattle.mx_boot.specs.Faults.{is_in_ram, shares_word}
use Rattle.mx_boot.specs.Placed.{owned_areas}
use Rattle.mx_boot.proofs.Apart.{AreClear, IsInRam, all_inside, apart_at, both_cover, end_is, in_ram}
use Rattle.mx_boot.proofs.Homes.{home_is}
use Rattle.mx_boot.proofs.Housed.{Inside, home_inside}
use Rattle.mx_model.proofs.EachLaws.{all_both, all_mapped, all_flat, all_parts, all_at, any_flat, there}
use Rattle.mx_boot.proofs.Owning.{is_over, newest_is}
use Rattle.mx_boot.proofs.Parted.{owned_part}
use Rattle.mx_boot.proofs.Rows.{at_mapped}
use Rattle.mx_model.proofs.JoinLaws.{all-weaker}

-- an element of a list
abbrev Has : {X : Type 0} → List X → X → Type 0
Has xs x = (k : ℕ) × (slice_get xs k ≡ Some x)

has_left : {X : Type 0} (xs ys : List X) (x : X) → Has xs x → Has (xs ++ ys) x
has_left xs ys x h = (h.0, left xs ys h.0 x h.1)
  where
    left : {X : Type 0} (xs ys : List X) (i : ℕ) (x : X) → slice_get xs i ≡ Some x → slice_get (xs ++ ys) i ≡ Some x
    left [] ys i x e = absurd cc
    left (y ∷ xs) ys zero x e = e
    left (y ∷ xs) ys (suc i) x e = left xs ys i x e

has_right : {X : Type 0} (xs ys : List X) (x : X) → Has ys x → Has (xs ++ ys) x
has_right [] ys x h = h
has_right (y ∷ xs) ys x h = let r = has_right xs ys x h in (suc r.0, r.1)

has_flat : {X Y : Type 0} (f : X → List Y) (xs : List X) (i : ℕ) (x : X) (y : Y) → slice_get xs i ≡ Some x → Has (f x) y
    → Has (flat_map f xs) y
has_flat f [] i x y e h = absurd cc
has_flat f (z ∷ xs) zero x y e h = has_left (f z) (flat_map f xs) y (subst (λ w. Has (f w) y) (sym (same_Some _ _ e)) h)
has_flat f (z ∷ xs) (suc i) x y e h = has_right (f z) (flat_map f xs) y (has_flat f xs i x y e h)

-- one module's heap area
module _ (plan : Said) (images : List (List ℕ)) (words i : ℕ) (m : ModulePlan) (address word : ℕ)
    (clear : AreClear words [] (areas plan images)) (at : slice_get plan.modules i ≡ Some m) (there_ : m.heap ≡ Some address)
    (over : covers (word_at address) (heap_words m) word ≡ true) where
  abbrev own : Home
  own = home images (i, m)

  abbrev harts : ℕ
  harts = length plan.harts

  abbrev heap : area.Area
  heap = heap_area own address

  heap_there : Has (heaps own) heap
  heap_there = subst (λ o. Has (option_map_or (λ a. heap_area own a ∷ []) o []) heap) (sym there_) (0, refl)

  own_there : (first : List area.Area) → Has (first ++ heaps own ++ stacks harts own ++ input_areas own) heap
  own_there first =
      has_left (first ++ heaps own ++ stacks harts own) (input_areas own) heap
      (has_left (first ++ heaps own) (stacks harts own) heap (has_right first (heaps own) heap heap_there))

  all_in : Inside words (areas plan images)
  all_in = all_inside words [] (areas plan images) clear

  heap_in : IsInRam words heap
  heap_in =
      let has = own_there (pieces own) in
      in_ram words heap (all_at (λ a. is_in_ram words a ≡ true) (areas_of harts own) has.0 heap
      (home_inside plan images words i m all_in at) has.1)

  word_in : word < words
  word_in = let e = end_is words heap heap_in in let d = (covers_from (word_at address) (heap_words m) word over).1 in omega (arith, e, d)

  -- each area that covers the word is the module's
  abbrev IsOwn : area.Area → Type 0
  IsOwn a = covers (word_at a.address) a.count word ≡ true → a.domain ≡ i + 1

  own_of : (a : area.Area) → (is_in_ram words a ≡ true) × ((shares_word a heap ≡ false) ⊎ (a ≡ heap)) → IsOwn a
  own_of a h covered = elim h.1 [
    | inl apart ↦ absurd (let both = both_cover words a heap word (in_ram words a h.0) heap_in covered over in cc)
    | inr same ↦ ap (λ (b : area.Area). b.domain) same
  ]

  all_own : AllByRecursion IsOwn (areas plan images)
  all_own =
      let has = has_flat (areas_of harts) (homes plan images) i own heap (home_is plan images i m at) (own_there (pieces own)) in
      all-weaker (λ a. (is_in_ram words a ≡ true) × ((shares_word a heap ≡ false) ⊎ (a ≡ heap))) IsOwn (areas plan images) own_of
      (all_both (λ a. is_in_ram words a ≡ true) (λ a. (shares_word a heap ≡ false) ⊎ (a ≡ heap)) (areas plan images) all_in
      (apart_at words [] (areas plan images) clear has.0 heap has.1))

  gives_own : (h : Home) → AllByRecursion IsOwn (areas_of harts h)
      → AllByRecursion (λ (g : Give). is_over word g ≡ true → g.value ≡ i + 1) (gives_of harts h)
  gives_own h all = all_mapped give (λ (g : Give). is_over word g ≡ true
      → g.value ≡ i + 1) (owned_areas harts h) (owned_part IsOwn harts h all)

  pub owner_is : (if nat_lt word words then owner (flat_map (gives_of harts) (homes plan images)) word else 0) ≡ i + 1
  owner_is =
      let has = own_there (owned_pieces own) in
      let given = at_mapped give (owned_areas harts own) has.0 heap has.1 in
      let some = any_flat (gives_of harts) (is_over word) (homes plan images) i own (home_is plan images i m at)
      (any_passes_from_place (is_over word) (gives_of harts own) has.0 (give heap) given over) in
      rw (below word words word_in) (newest_is 0 (i + 1) (flat_map (gives_of harts) (homes plan images)) word
      (search (arith, all_flat, harts, is_over, all-weaker, IsOwn, gives_own, all_parts, all_own)) (inl some))
    where
      below : (a b : ℕ) → a < b → nat_lt a b ≡ true
      below a b h = grind (arith, nat_tests)

-- the heap area of module d
heap_covers : (plan : Said) (images : List (List ℕ)) (words i word : ℕ) (m : ModulePlan) (o : Option ℕ)
    → AreClear words [] (areas plan images)
    → slice_get plan.modules i ≡ Some m → m.heap ≡ o
    → (let a : Area = option_map_or (λ address. record { first = word_at address; count = heap_words m }) o
    (record { first = 0; count = 0 }) in covers a.first a.count word ≡ true)
    → (if nat_lt word words then owner (flat_map (gives_of (length plan.harts)) (homes plan images)) word else 0) ≡ i + 1
heap_covers plan images words i word m None clear at e over =
    absurd (let c = covers_from 0 0 word over in let q : ⊥ = omega (arith, c.1) in q)
heap_covers plan images words i word m (Some address) clear at e over = owner_is plan images words i m address word clear at e over

pub heaps_own : (plan : Said) (images : List (List ℕ)) (words : ℕ) → AreClear words [] (areas plan images) → (d word : ℕ)
    → IsModule (length (map module_of plan.modules)) d
    → (let m : Module = get_or (map module_of plan.modules) (d - 1) no_module in covers m.heap.first m.heap.count word ≡ true)
    → (if nat_lt word words then owner (flat_map (gives_of (length plan.harts)) (homes plan images)) word else 0) ≡ d
heaps_own plan images words clear d word is over =
    let first = is.first in
    let last = is.last in
    let below : d - 1 < length plan.modules = omega (arith, first, last, length-map plan.modules module_of) in
    let found = there plan.modules (d - 1) below in
    let same : get_or (map module_of plan.modules) (d - 1) no_module ≡ module_of found.0 =
    get_or_from_slice_get (map module_of plan.modules) (d - 1) (module_of found.0) no_module
    (at_mapped module_of plan.modules (d - 1) found.0 found.1) in
    let here : covers (heap_of found.0).first (heap_of found.0).count word ≡ true =
    subst (λ (m : Module). covers m.heap.first m.heap.count word ≡ true) same over in
    let back : d - 1 + 1 ≡ d = omega (arith, first) in
    heap_covers plan images words (d - 1) word found.0 found.0.heap clear found.1 refl here ∙ back
