-- The machine that starts with the parts of a plan without a fault is the flat state at boot.
use Rattle.std.proofs.Common.{◌≡◌, inl, inr, ℕ, zero, suc, ◌+◌, ◌-◌, ◌*◌, ◌/◌, ◌%◌, ◌≤◌, true, false, cond, ◌==◌, List, [], ◌∷◌, length}
use Rattle.std.proofs.Common.{get_or, set, map, replicate, slice_get, Option, Some, None, IfSome, option_map, refl, ap, ◌∙◌, sym, subst}
use Rattle.std.proofs.Common.{arith, mul_assoc}
use Rattle.std.specs.List.{AllByRecursion, enumerate_from}
use Rattle.std.specs.Option.{is_some, option_map_or}
use Rattle.std.proofs.lemmas.Bool.Decides.{nat_tests}
use Rattle.std.proofs.lemmas.List.{length-map}
use Rattle.std.proofs.lemmas.Option.{get_or_from_slice_get}
use Rattle.mx_words.specs.Caches.{no_cache}
use Rattle.mx_words.specs.Ranges.{address_of}
use Rattle.mx_table.proofs.NamedLaws.{everywhere}
use Rattle.mx_check.specs.Calls.{new_harts}
use Rattle.mx_check.specs.Harts.{Kept, new_hart}
use Rattle.mx_model.specs.State.{Core, Hart, Module, Stack, Running, flat, module_at, no_module}
use Rattle.mx_model.specs.Valid.{IsHome}
use Rattle.mx_supervisor.specs.Parts.{modules_from}
use Rattle.mx_machine.specs.Harts.{seen_from}
use Rattle.mx_machine.specs.Held.{behind, beside, homes_from, home, no_area, told}
use Rattle.mx_machine.specs.Starts.{IsStack, IsStart, MayStart, none_dead, started, started_from}
use Rattle.mx_machine.specs.declared.starts.StackArea.{StackArea}
use Rattle.mx_machine.proofs.SmallLaws.{from-each}
use Rattle.mx_manifest.specs.declared.parts.HartPlan.{HartPlan}
use Rattle.mx_manifest.specs.declared.parts.ModulePlan.{ModulePlan}
use Rattle.mx_manifest.specs.InRange.{IsAligned, IsBetween, IsInRange}
use Rattle.mx_manifest.specs.Plan.{Said}
use Rattle.mx_boot.specs.Areas.{stack_words, stack_area, areas}
use Rattle.mx_boot.specs.Areas as areas_spec
use Rattle.mx_boot.specs.Boot.{boot_state, hart_at_boot, heap_of, module_of, stack_address, stack_of}
use Rattle.mx_boot.specs.Entries.{word_at}
use Rattle.mx_boot.specs.Faults.{is_in_ram, ram_words, first_fault}
use Rattle.mx_boot.specs.Laid.{start_of}
use Rattle.mx_boot.specs.Joined.{boot_parts, heap_state}
use Rattle.mx_boot.specs.Starting.{stack_area_of, stack_areas, hart_start_of, hart_starts}
use Rattle.mx_boot.proofs.Apart.{all_inside, in_ram}
use Rattle.mx_boot.proofs.Booted.{IsFaultless, faultless}
use Rattle.mx_boot.proofs.Harted.{hart_valid}
use Rattle.mx_boot.proofs.Homes.{hart_domain}
use Rattle.mx_boot.proofs.Housed.{Inside, has_words, home_inside, modules_valid}
use Rattle.mx_boot.proofs.Joining.{length-maps}
use Rattle.mx_boot.proofs.Parted.{stack_part}
use Rattle.mx_model.proofs.EachLaws.{all_mapped, all_at, there}
use Rattle.mx_boot.proofs.Rows.{at_mapped}

-- what a plan without a fault says of a module's stack
pub record HasStack (h : ℕ) (m : ModulePlan) : Type 0 where
  pub stack : told (stack_area_of m) ≡ stack_of m
  pub behind : (let a = stack_area_of m in cond (a.words == 0) 0 (address_of (a.first + a.words * (h + 1)))) ≡ stack_address h m

is_zero : (n : ℕ) → 1 ≤ n → (n == 0) ≡ false
is_zero n some = grind (arith, nat_tests)

stack_told : (m : ModulePlan) (o : Option ℕ) → m.stack ≡ o → is_some m.stack ≡ is_some m.stack_words
    → IfSome m.stack_words (IsBetween 1 1048576)
    → told (option_map_or (λ address. record { first = word_at address; words = stack_words m; kills = m.kills }) o
    (record { first = 0; words = 0; kills = m.kills }))
    ≡ option_map_or (λ address. record { first = word_at address; words = stack_words m }) o (record { first = 0; words = 0 })
stack_told m None e whole between = refl
stack_told m (Some address) e whole between =
    let some = has_words m.stack m.stack_words 1048576 address whole between e in
    ap (λ b. (let s : Stack = record { first = cond b 0 (word_at address); words = stack_words m } in s)) (is_zero (stack_words m) some)

stack_behind : (words harts h : ℕ) (of : areas_spec.Home) (o : Option ℕ) → of.plan.stack ≡ o
    → is_some of.plan.stack ≡ is_some of.plan.stack_words → IfSome of.plan.stack_words (IsBetween 1 1048576)
    → IfSome o IsAligned → Inside words (option_map_or (λ address. stack_area harts of address ∷ []) o [])
    → (let a : StackArea = option_map_or (λ address. record { first = word_at address; words = stack_words of.plan; kills = of.plan.kills })
    o (record { first = 0; words = 0; kills = of.plan.kills }) in cond (a.words == 0) 0 (address_of (a.first + a.words * (h + 1))))
    ≡ option_map_or (λ address. address + 4 * stack_words of.plan * (h + 1)) o 0
stack_behind words harts h of None e whole between aligned inside = refl
stack_behind words harts h of (Some address) e whole between aligned inside =
    let some = has_words of.plan.stack of.plan.stack_words 1048576 address whole between e in
    let from = (in_ram words (stack_area harts of address) inside.0).from in
    ap (λ b. cond b 0 (address_of (word_at address + stack_words of.plan * (h + 1)))) (is_zero (stack_words of.plan) some)
    ∙ place address (stack_words of.plan * (h + 1)) from aligned.0 ∙ ap (λ n. address + n) (sym (mul_assoc 4 (stack_words of.plan) (h + 1)))
  where
    place : (address more : ℕ) → 2147483648 ≤ address → address % 4 ≡ 0
        → 2147483648 + 4 * ((address - 2147483648) / 4 + more) ≡ address + 4 * more
    place address more from aligned = omega (arith, from, aligned)

kills_told : (m : ModulePlan) (o : Option ℕ) → (let a : StackArea =
    option_map_or (λ address. record { first = word_at address; words = stack_words m; kills = m.kills }) o
    (record { first = 0; words = 0; kills = m.kills }) in a.kills) ≡ m.kills
kills_told m None = refl
kills_told m (Some address) = refl

caches_none : (n : ℕ) → map (λ (k : Kept). k.cache) (replicate n new_hart) ≡ replicate n no_cache
caches_none zero = refl
caches_none (suc n) = ap (λ cs. no_cache ∷ cs) (caches_none n)

homes_at : (d i : ℕ) (all : List StackArea) (x : StackArea) → slice_get all i ≡ Some x
    → slice_get (homes_from none_dead d all) i ≡ Some (home none_dead (d + i) x)
homes_at d i [] x e = absurd cc
homes_at d zero (a ∷ all) x e = ap (λ o. option_map (home none_dead d) o) e
    ∙ ap (λ n. Some (home none_dead n x)) (let same : d ≡ d + 0 = omega arith in same)
homes_at d (suc i) (a ∷ all) x e = homes_at (d + 1) i all x e
    ∙ ap (λ n. Some (home none_dead n x)) (let same : d + 1 + i ≡ d + suc i = omega arith in same)

-- the modules joined with their heaps, from a place on
modules_are : (rest : Core) (i : ℕ) (ms : List ModulePlan) → ((j : ℕ) (m : ModulePlan) → slice_get ms j ≡ Some m
    → module_at rest (i + 1 + j) ≡ record no_module { stack = stack_of m; kills = m.kills })
    → modules_from rest (i + 1) (map heap_state ms) ≡ map module_of ms
modules_are rest i [] f = refl
modules_are rest i (m ∷ ms) f =
    let here : module_at rest (i + 1) ≡ record no_module { stack = stack_of m; kills = m.kills } =
    ap (module_at rest) (let same : i + 1 ≡ i + 1 + 0 = omega arith in same) ∙ f 0 m refl in
    ap (λ (x : Module). (let y : Module = record x { heap = heap_of m; blocks = [] } in y)
    ∷ modules_from rest (i + 1 + 1) (map heap_state ms)) here
    ∙ ap (λ xs. module_of m ∷ xs) (modules_are rest (i + 1) ms (λ j n at.
    ap (module_at rest) (let same : i + 1 + 1 + j ≡ i + 1 + suc j = omega arith in same) ∙ f (suc j) n at))

-- the harts, from a number on
harts_are : (plan : Said) (images : List (List ℕ)) (stacks : List StackArea) (kept : List Kept) (h : ℕ) (hs : List HartPlan)
    → ((j : ℕ) (x : HartPlan) → slice_get hs j ≡ Some x → behind stacks x.module (h + j)
    ≡ option_map_or (stack_address (h + j)) (slice_get plan.modules (x.module - 1)) 0)
    → seen_from h (started_from stacks h (map (hart_start_of (start_of plan images)) hs)) kept
    ≡ map (hart_at_boot plan images) (enumerate_from h hs)
harts_are plan images stacks kept h [] f = refl
harts_are plan images stacks kept h (x ∷ hs) f =
    let same : h + 0 ≡ h = omega arith in
    let here : behind stacks x.module h ≡ option_map_or (stack_address h) (slice_get plan.modules (x.module - 1)) 0 =
    subst (λ n. behind stacks x.module n ≡ option_map_or (stack_address n) (slice_get plan.modules (x.module - 1)) 0) same (f 0 x refl) in
    ap (λ n. (let y : Hart = record {
      regs = set (replicate 32 0) 2 n;
      pc = start_of plan images x;
      domain = x.module;
      frames = [];
      status =
          Running;
    } in y) ∷ seen_from (h + 1) (started_from stacks (h + 1) (map (hart_start_of (start_of plan images)) hs)) kept) here
    ∙ ap (λ ys. hart_at_boot plan images (h, x) ∷ ys) (harts_are plan images stacks kept (h + 1) hs
    (λ j y at. let next : h + suc j ≡ h + 1 + j = omega arith in
    subst (λ n. behind stacks y.module n ≡ option_map_or (stack_address n) (slice_get plan.modules (y.module - 1)) 0) next
    (f (suc j) y at)))

module _ (plan : Said) (images : List (List ℕ)) (in_range : IsInRange plan) (none : first_fault plan images ≡ None) where
  clear : IsFaultless plan images
  clear = faultless plan images none

  inside : Inside (ram_words plan) (areas plan images)
  inside = all_inside (ram_words plan) [] (areas plan images) clear.placed

  has_stack : (h i : ℕ) (m : ModulePlan) → slice_get plan.modules i ≡ Some m → HasStack h m
  has_stack h i m at =
      let g = areas_spec.home images (i, m) in
      let r = in_range.modules i m at in
      let own = stack_part (λ a. is_in_ram (ram_words plan) a ≡ true) (length plan.harts) g
      (home_inside plan images (ram_words plan) i m inside at) in
      record {
        stack = stack_told m m.stack refl r.stack_whole r.stack_words;
        behind = stack_behind (ram_words plan) (length plan.harts) h g m.stack refl r.stack_whole r.stack_words r.stack own;
      }

  area_is : (i : ℕ) (m : ModulePlan) → slice_get plan.modules i ≡ Some m → slice_get (stack_areas plan) i ≡ Some (stack_area_of m)
  area_is i m at = at_mapped stack_area_of plan.modules i m at

  rest : Core
  rest = beside (seen_from 0 (started_from (stack_areas plan) 0 (hart_starts plan images)) (new_harts (length plan.harts)))
      (stack_areas plan) none_dead 0

  module_is : (j : ℕ) (m : ModulePlan) → slice_get plan.modules j ≡ Some m
      → module_at rest (0 + 1 + j) ≡ record no_module { stack = stack_of m; kills = m.kills }
  unfolding rest
  module_is j m at =
      ap (λ n. get_or (homes_from none_dead 1 (stack_areas plan)) n no_module) (omega arith)
      ∙ get_or_from_slice_get (homes_from none_dead 1 (stack_areas plan)) j (home none_dead (1 + j) (stack_area_of m)) no_module
      (homes_at 1 j (stack_areas plan) (stack_area_of m) (area_is j m at))
      ∙ ap (λ k. ((record no_module { stack = told (stack_area_of m); kills = k; dead = get_or none_dead (1 + j) false })))
      (kills_told m m.stack)
      ∙ ap (λ s. ((record no_module { stack = s; kills = m.kills; dead = get_or none_dead (1 + j) false }))) ((has_stack 0 j m at).stack)
      ∙ ap (λ b. ((record no_module { stack = stack_of m; kills = m.kills; dead = b }))) (everywhere 64 (1 + j) false)

  hart_is : (j : ℕ) (x : HartPlan) → slice_get plan.harts j ≡ Some x
      → behind (stack_areas plan) x.module (0 + j) ≡ option_map_or (stack_address (0 + j)) (slice_get plan.modules (x.module - 1)) 0
  hart_is j x at =
      let domain = hart_domain plan j x in_range at in
      let found = there plan.modules (x.module - 1) (omega (arith, domain.0, domain.1)) in
      cc (
        (get_or_from_slice_get (stack_areas plan) (x.module - 1) (stack_area_of found.0) no_area (area_is (x.module - 1) found.0 found.1)),
        (has_stack (0 + j) (x.module - 1) found.0 found.1).behind,
        found.1,
      )

  pub boots-as : (inputs : List (List ℕ)) → started (boot_parts plan images inputs) (hart_starts plan images) (stack_areas plan)
      ≡ flat (boot_state plan images inputs)
  unfolding rest
  boots-as inputs =
      let s = boot_state plan images inputs in
      let harts = harts_are plan images (stack_areas plan) (new_harts (length plan.harts)) 0 plan.harts hart_is in
      let modules = modules_are rest 0 plan.modules module_is in
      let caches = caches_none (length plan.harts) in
      search (arith, s.core.modules, s.core.harts)

  pub may-start : (inputs : List (List ℕ)) → MayStart (boot_parts plan images inputs) (hart_starts plan images) (stack_areas plan)
  may-start inputs =
      let count : length (hart_starts plan images) ≡ length plan.harts = length-map plan.harts (hart_start_of (start_of plan images)) in
      let few = in_range.ram_kib in
      let maps = length-maps plan images in_range none in
      record {
        some_harts = (let some = in_range.hart_count in omega (arith, count, some.0));
        new = ap new_harts (sym count);
        each = all_mapped (hart_start_of (start_of plan images)) (IsStart (boot_parts plan images inputs)) plan.harts
            (from-each (λ x. IsStart (boot_parts plan images inputs) (hart_start_of (start_of plan images) x)) plan.harts
            (λ i x at. let v = hart_valid plan images (ram_words plan) i x in_range (omega (arith, few.1)) inside clear.started at in
            let d = v.domain in record {
              domain = (let first = d.first in let last = d.last in
                  record { first = first; last = omega (arith, maps, last) });
              pc = v.pc.aligned;
            }));
        count = length-map plan.modules stack_area_of ∙ sym maps;
        areas = subst (λ n. AllByRecursion (IsStack (ram_words plan) n) (stack_areas plan)) (sym count)
            (all_mapped stack_area_of (IsStack (ram_words plan) (length plan.harts)) plan.modules
            (from-each (λ m. IsStack (ram_words plan) (length plan.harts) (stack_area_of m)) plan.modules
            (λ i m at. stack_fits m m.stack (all_at (IsHome (ram_words plan) (length plan.harts)) (map module_of plan.modules) i
            (module_of m)
            (modules_valid plan images (ram_words plan) in_range inside) (at_mapped module_of plan.modules i m at)).stack)));
      }
    where
      stack_fits : (m : ModulePlan) (o : Option ℕ)
          → (let s : Stack = option_map_or (λ address. record { first = word_at address; words = stack_words m }) o
          (record { first = 0; words = 0 }) in s.first + s.words * length plan.harts ≤ ram_words plan)
          → IsStack (ram_words plan) (length plan.harts) (option_map_or (λ address.
          record { first = word_at address; words = stack_words m; kills = m.kills }) o
          (record { first = 0; words = 0; kills = m.kills }))
      stack_fits m None fits = inl refl
      stack_fits m (Some address) fits = inr fits
