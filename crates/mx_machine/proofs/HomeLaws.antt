-- The modules of the state: a module is its heap, its stack area, and whether it is killing and dead.
use Rattle.std.proofs.Common.{◌≡◌, ◌≢◌, ℕ, zero, suc, ◌+◌, ◌-◌, ◌*◌, ◌<◌, ◌≤◌, ◌⊎◌, Bool, true, false, ◌==◌, cond, List, [], ◌∷◌, length}
use Rattle.std.proofs.Common.{get_or, set, refl, sym, ap, subst, ◌∙◌, arith, if◌then◌else◌}
use Rattle.std.proofs.lemmas.Bool.{cases_eq}
use Rattle.std.proofs.lemmas.List.{ext_get_or, get_or-set_same, get_or-set_other, length-set}
use Rattle.mx_words.specs.Ranges.{address_of}
use Rattle.mx_heap.specs.HeapState.{HeapState}
use Rattle.mx_model.specs.State.{Core, Module, no_module, module_at, with_module}
use Rattle.mx_model.specs.State.{Hart as Seen}
use Rattle.mx_model.specs.Turn.{stack_address}
use Rattle.mx_model.specs.Turn.{killed as killed_in}
use Rattle.mx_supervisor.specs.Heaps.{no_heap, heap_at}
use Rattle.mx_supervisor.specs.Parts.{with_heap, modules_from}
use Rattle.mx_supervisor.proofs.Modules.{length-modules}
use Rattle.mx_machine.specs.declared.starts.StackArea.{StackArea}
use Rattle.mx_machine.specs.Actions.{dead_after, killed}
use Rattle.mx_machine.specs.Held.{Held, area_of, behind, beside, home, homes_from, no_area, rest_of}
use Rattle.mx_machine.specs.Made.{core_in}
use Rattle.mx_machine.specs.Ties.{Fits}

-- harts and turns don't matter for the modules
pub modules-beside : (d : ℕ) (heaps : List HeapState) (harts others : List Seen) (stacks : List StackArea) (dead : List Bool)
    (turns steps : ℕ) →
    modules_from (beside harts stacks dead turns) d heaps ≡ modules_from (beside others stacks dead steps) d heaps
modules-beside d [] harts others stacks dead turns steps = refl
modules-beside d (x ∷ xs) harts others stacks dead turns steps =
    ap (λ (ms : List Module). with_heap (module_at (beside others stacks dead steps) d) x ∷ ms)
    (modules-beside (d + 1) xs harts others stacks dead turns steps)

homes-at : (dead : List Bool) (n i : ℕ) (stacks : List StackArea) → i < length stacks →
    get_or (homes_from dead n stacks) i no_module ≡ home dead (n + i) (get_or stacks i no_area)
homes-at dead n i [] l = absurd (omega arith)
homes-at dead n zero (a ∷ rest) l = let e : n ≡ n + 0 = omega arith in ap (λ k. home dead k a) e
homes-at dead n (suc i) (a ∷ rest) l = let e : (n + 1) + i ≡ n + suc i = omega arith in
    homes-at dead (n + 1) i rest (omega arith) ∙ ap (λ k. home dead k (get_or rest i no_area)) e

modules-at : (rest : Core) (n i : ℕ) (heaps : List HeapState) → i < length heaps →
    get_or (modules_from rest n heaps) i no_module ≡ with_heap (module_at rest (n + i)) (get_or heaps i no_heap)
modules-at rest n i [] l = absurd (omega arith)
modules-at rest n zero (x ∷ xs) l = let e : n ≡ n + 0 = omega arith in ap (λ k. with_heap (module_at rest k) x) e
modules-at rest n (suc i) (x ∷ xs) l = let e : (n + 1) + i ≡ n + suc i = omega arith in
    modules-at rest (n + 1) i xs (omega arith) ∙ ap (λ k. with_heap (module_at rest k) (get_or xs i no_heap)) e

-- what stands at place i of the modules
module _ (harts : List Seen) (stacks : List StackArea) (dead : List Bool) (turns : ℕ) (heaps : List HeapState)
    (same : length stacks ≡ length heaps) where
  place-of : (i : ℕ) → i < length heaps →
      get_or (modules_from (beside harts stacks dead turns) 1 heaps) i no_module
      ≡ with_heap (home dead (1 + i) (get_or stacks i no_area)) (get_or heaps i no_heap)
  place-of i l = search (arith, modules-at, homes-at)

-- a domain of a machine
pub record IsHere (m : Held) (d : ℕ) : Type 0 where
  pub low : 1 ≤ d
  pub high : d ≤ length m.parts.heaps

pub module-is : (m : Held) (d : ℕ) → Fits m → IsHere m d → module_at (core_in m) d
    ≡ with_heap (home m.dead d (area_of m.stacks d)) (heap_at m.parts.heaps d)
module-is m d f p = search (arith, place-of, m.stacks, m.dead, m.steps, m.parts.heaps, f.stacks)

pub module-kills : (m : Held) (d : ℕ) → Fits m → IsHere m d → (module_at (core_in m) d).kills ≡ (area_of m.stacks d).kills
module-kills m d f p = ap (λ (x : Module). x.kills) (module-is m d f p)

pub module-dead : (m : Held) (d : ℕ) → Fits m → IsHere m d → (module_at (core_in m) d).dead ≡ get_or m.dead d false
module-dead m d f p = ap (λ (x : Module). x.dead) (module-is m d f p)

-- the address after a stack area
behind-told : (first words h : ℕ) → (if words == 0 then 0 else address_of (first + words * (h + 1)))
    ≡ (if words == 0 then 0 else address_of ((if words == 0 then 0 else first) + words * (h + 1)))
behind-told first words h = elim (words == 0) as (λ b. cond b 0 (address_of (first + words * (h + 1)))
    ≡ cond b 0 (address_of (cond b 0 first + words * (h + 1)))) [ true ↦ refl | false ↦ refl ]

pub stack-behind : (m : Held) (d h : ℕ) → Fits m → IsHere m d → stack_address (core_in m) d h ≡ behind m.stacks d h
stack-behind m d h f p = grind (arith, m.stacks, module-is, behind-told)

-- a domain that is made dead
module _ (m : Held) (d : ℕ) (f : Fits m) (p : IsHere m d) where
  dead-place : (i : ℕ) → i < length m.parts.heaps → (i ≡ d - 1) ⊎ (i ≢ d - 1) →
      get_or (modules_from (beside (rest_of m).harts m.stacks (set m.dead d true) m.steps) 1 m.parts.heaps) i no_module
      ≡ get_or (set (modules_from (rest_of m) 1 m.parts.heaps) (d - 1)
      (record (get_or (modules_from (rest_of m) 1 m.parts.heaps) (d - 1) no_module) { dead = true })) i no_module
  dead-place i l x = grind (arith, get_or-set_same, length-modules, place-of, get_or-set_other)

  modules-dead : modules_from (beside (rest_of m).harts m.stacks (set m.dead d true) m.steps) 1 m.parts.heaps
      ≡ set (modules_from (rest_of m) 1 m.parts.heaps) (d - 1) (record (module_at (core_in m) d) { dead = true })
  modules-dead =
      let heaps = m.parts.heaps in
      let ms = modules_from (rest_of m) 1 heaps in
      let new = record (get_or ms (d - 1) no_module) { dead = true } in
      let k = length-modules (beside (rest_of m).harts m.stacks (set m.dead d true) m.steps) 1 heaps in
      ext_get_or no_module _ _ (k ∙ sym (length-modules (rest_of m) 1 heaps) ∙ sym (length-set ms (d - 1) new))
      (λ i l. dead-place i (subst (λ n. i < n) k l) (cases_eq i (d - 1)))

-- a fault makes a killing domain dead
core-dead : (m : Held) (d : ℕ) (b : Bool) → Fits m → IsHere m d → core_in (record m { dead = dead_after m.dead d b })
    ≡ cond b (with_module d (record (module_at (core_in m) d) { dead = true }) (core_in m)) (core_in m)
core-dead m d x f p = grind (arith, modules-dead)

pub core-killed : (m : Held) (d cause : ℕ) → Fits m → IsHere m d → core_in (killed d cause m) ≡ killed_in d cause (core_in m)
core-killed m d cause f p = search (arith, core-dead, module-kills)
