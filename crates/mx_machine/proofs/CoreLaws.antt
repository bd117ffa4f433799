-- The state after a hart of a machine is changed, in the machine and in its checker.
use Rattle.std.proofs.Common.{◌≡◌, ◌≢◌, ℕ, List, get_or, set, sym, ap, ◌∙◌, arith}
use Rattle.std.proofs.Common.{map as list_map}
use Rattle.std.proofs.Math.ListN.{get_or-map}
use Rattle.std.proofs.lemmas.List.{map-set, set-get_or}
use Rattle.mx_words.specs.Caches.{Cache, no_cache, left_domain}
use Rattle.mx_check.specs.Harts.{Kept, kept_at, at_hart, leaves_domain}
use Rattle.mx_check.specs.Harts.{nothing_kept}
use Rattle.mx_model.specs.Checks.{empties_places}
use Rattle.mx_model.specs.State.{Core, with_hart}
use Rattle.mx_supervisor.specs.Parts.{Parts, core_of}
use Rattle.mx_machine.specs.declared.hart.Hart.{Hart}
use Rattle.mx_machine.specs.Harts.{seen}
use Rattle.mx_machine.specs.Held.{Held, rest_of}
use Rattle.mx_machine.specs.Made.{core_in}
use Rattle.mx_machine.proofs.HartsAt.{harts-set}
use Rattle.mx_machine.proofs.HomeLaws.{modules-beside}

-- calls in flight of the harts but h stay
abbrev pub FlyAlike : ℕ → List Kept → List Kept → Type 0
FlyAlike h kept other = (i : ℕ) → i ≢ h → (kept_at kept i).flight ≡ (kept_at other i).flight

pub core-step : (m : Held) (h : ℕ) (x : Hart) (p : Parts) → FlyAlike h p.harts m.parts.harts →
    core_in (record m { parts = p; harts = set m.harts h x }) ≡ with_hart h (seen h x (kept_at p.harts h)) (core_of (rest_of m) p)
core-step m h x p e =
    search (arith, m.harts, modules-beside, p.heaps, m.stacks, m.dead, m.steps, harts-set, p.harts, m.parts.harts)

-- the caches of the state are those of the checker

pub caches-at : (kept : List Kept) (h : ℕ) → get_or (list_map (λ (k : Kept). k.cache) kept) h no_cache ≡ (kept_at kept h).cache
caches-at kept h = get_or-map (λ (k : Kept). k.cache) kept h nothing_kept

pub caches-step : (kept : List Kept) (h : ℕ) (step : Kept → Kept) →
    list_map (λ (k : Kept). k.cache) (at_hart h step kept) ≡ set (list_map (λ (k : Kept). k.cache) kept) h (step (kept_at kept h)).cache
caches-step kept h step = map-set (λ (k : Kept). k.cache) kept h (step (kept_at kept h))

-- a step that leaves a hart's caches
pub caches-still : (kept : List Kept) (h : ℕ) (step : Kept → Kept) → (step (kept_at kept h)).cache ≡ (kept_at kept h).cache →
    list_map (λ (k : Kept). k.cache) (at_hart h step kept) ≡ list_map (λ (k : Kept). k.cache) kept
caches-still kept h step e =
    let cs = list_map (λ (k : Kept). k.cache) kept in
    caches-step kept h step ∙ ap (λ (c : Cache). set cs h c) (e ∙ sym (caches-at kept h)) ∙ set-get_or cs h no_cache

-- the places emptied
pub caches-left : (kept : List Kept) (h : ℕ) →
    list_map (λ (k : Kept). k.cache) (at_hart h leaves_domain kept)
    ≡ set (list_map (λ (k : Kept). k.cache) kept) h (left_domain (get_or (list_map (λ (k : Kept). k.cache) kept) h no_cache))
caches-left kept h =
    let cs = list_map (λ (k : Kept). k.cache) kept in
    caches-step kept h leaves_domain ∙ ap (λ (c : Cache). set cs h (left_domain c)) (sym (caches-at kept h))

-- the state of parts in which the checker keeps another thing of hart h
module _ (rest : Core) (p : Parts) (h : ℕ) where
  pub core-kept : (step : Kept → Kept) → (step (kept_at p.harts h)).cache ≡ (kept_at p.harts h).cache →
      core_of rest (record p { harts = at_hart h step p.harts }) ≡ core_of rest p
  core-kept step e = ap (λ (cs : List Cache). record (core_of rest p) { caches = cs }) (caches-still p.harts h step e)

  pub core-left : core_of rest (record p { harts = at_hart h leaves_domain p.harts }) ≡ empties_places h (core_of rest p)
  core-left = ap (λ (cs : List Cache). record (core_of rest p) { caches = cs }) (caches-left p.harts h)
