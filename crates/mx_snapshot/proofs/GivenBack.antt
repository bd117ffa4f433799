-- What a snapshot stores of a valid flat state gives back a state that is the same, and the plan that was kept.
use Rattle.std.proofs.Common.{◌≡◌, ℕ, suc, ◌+◌, ◌-◌, ◌<◌, ◌==◌, List, [], ◌∷◌, length, get_or, refl, sym, ap, ◌∙◌, arith}
use Rattle.std.proofs.Common.{map as list_map}
use Rattle.std.specs.List.{enumerate_from, range_with_len}
use Rattle.std.proofs.lemmas.List.{ext_get_or, get_or-map, get_or_default, length-map}
use Rattle.std.proofs.lemmas.List.FromFn.{get_or-map-range_with_len, length-map-range_with_len}
use Rattle.mx_words.specs.declared.perm.Perm.{Perm}
use Rattle.mx_words.specs.declared.perm.Perm.TheVariants as P
use Rattle.mx_words.specs.Newest.{Grant, map, owners}
use Rattle.mx_words.specs.Rights.{same}
use Rattle.mx_words.specs.Runs.{runs_of}
use Rattle.mx_model.specs.Reads.{map_in}
use Rattle.mx_model.specs.State.{Core, Flat, Hart, Module, Status, flat, no_hart, no_module}
use Rattle.mx_model.specs.Turn.{call_of}
use Rattle.mx_model.specs.Valid.{IsFlat, IsStatus}
use Rattle.mx_model.proofs.ListLaws.{all-in}
use Rattle.mx_machine.specs.Readings.{status_told}
use Rattle.mx_snapshot.proofs.ValidAgain.{four-bits, laid-again}
use Rattle.mx_snapshot.proofs.ValidGoes.{no_stored_module}
use Rattle.mx_snapshot.proofs.ValidRuns.{nat-equality, perm-equality}
use Rattle.mx_snapshot.specs.Kept.{IsOfPlan, KeptPlan}
use Rattle.mx_snapshot.specs.Resumed.{hart_in_state, laid_runs, plan_of, running, state_of, status_in}
use Rattle.mx_snapshot.specs.Same.{AreSame, bare_hart, without_code}
use Rattle.mx_snapshot.specs.Stored.{StoredHart, StoredModule, heard_of, named_module, perm_runs_of, stored_hart, stored_of}

-- the status of a hart, but for an exit code
status-back : (harts h : ℕ) (x : Hart) (y : StoredHart) (status : Status) → y.heard ≡ heard_of status → call_of h (running y) ≡ call_of h x
    → IsStatus harts h x status →
    without_code (status_in h y (status_told status)) ≡ without_code status
status-back harts h x y x1 heard call is = grind (arith, four-bits)

hart-back : (harts h : ℕ) (x : Hart) → IsStatus harts h x x.status → bare_hart (hart_in_state (h, stored_hart x)) ≡ bare_hart x
hart-back harts h x is = ap (λ (status : Status). record x { status = status })
    (status-back harts h x (stored_hart x) x.status refl refl is)

harts-back : (harts n : ℕ) (xs : List Hart) → ((i j : ℕ) → n + i ≡ j → i < length xs
    → IsStatus harts j (get_or xs i no_hart) (get_or xs i no_hart).status) →
    list_map bare_hart (list_map hart_in_state (enumerate_from n (list_map stored_hart xs))) ≡ list_map bare_hart xs
harts-back harts n [] each = refl
harts-back harts n (x ∷ xs) each =
    ap (λ (y : Hart). y ∷ list_map bare_hart (list_map hart_in_state (enumerate_from (n + 1) (list_map stored_hart xs))))
    (hart-back harts n x (each 0 n (omega arith) (omega arith)))
    ∙ ap (λ (ys : List Hart). bare_hart x ∷ ys) (harts-back harts (n + 1) xs (λ i j e lt.
    each (suc i) j (omega (arith, e)) (omega (arith, lt))))

module _ (kept : KeptPlan) (f : Flat) (valid : IsFlat f) where
  abbrev core : Core
  core = f.core

  abbrev count : ℕ
  count = length core.modules

  abbrev one : ℕ → StoredModule
  one d = named_module kept.names f d

  abbrev ms : List StoredModule
  ms = list_map one (range_with_len 1 count)

  length-ms : length ms ≡ count
  length-ms = length-map-range_with_len one 1 count

  -- module i + 1
  at-place : (i : ℕ) → i < count → get_or ms i no_stored_module ≡ one (1 + i)
  at-place i lt = get_or-map-range_with_len one 1 count i (1 + i) no_stored_module lt refl

  modules-back : list_map (λ (m : StoredModule). m.home) ms ≡ core.modules
  modules-back =
      let long = length-map ms (λ (m : StoredModule). m.home) in
      let many = length-ms in
      ext_get_or no_module (list_map (λ (m : StoredModule). m.home) ms) core.modules (long ∙ many)
      (λ i lt.
      let within : i < count = omega (arith, lt, long, many) in
      let back : 1 + i - 1 ≡ i = omega arith in
      get_or-map (λ (m : StoredModule). m.home) ms i no_stored_module no_module (omega (arith, within, many))
      ∙ ap (λ (m : StoredModule). m.home) (at-place i within)
      ∙ ap (λ (k : ℕ). get_or core.modules k no_module) back)

  abbrev laid : List (List Grant)
  laid = list_map (λ (m : StoredModule). laid_runs 0 m.map) ms

  map-back : (i : ℕ) → i < length f.maps → map (laid_runs 0 (perm_runs_of f (1 + i))) core.size ≡ get_or f.maps i []
  map-back i lt =
      let back : 1 + i - 1 ≡ i = omega arith in
      let m = get_or f.maps i [] in
      let here : map_in core.size f.maps (1 + i) ≡ m = ap (λ (k : ℕ). get_or f.maps k (map [] core.size)) back
      ∙ get_or_default f.maps i (map [] core.size) [] lt in
      ap (λ (x : List Perm). map (laid_runs 0 (runs_of same x)) core.size) here
      ∙ laid-again same P.None m core.size perm-equality (all-in (λ (x : List Perm). length x ≡ core.size) f.maps [] valid.whole_maps i lt)

  maps-back : list_map (λ (g : List Grant). map g core.size) laid ≡ f.maps
  maps-back =
      let many = length-ms in
      let long : length laid ≡ count = length-map ms (λ (m : StoredModule). laid_runs 0 m.map) ∙ many in
      let all : length (list_map (λ (g : List Grant). map g core.size) laid) ≡ count = length-map laid (λ (g : List Grant). map g core.size)
      ∙ long in
      let maps = valid.maps in
      ext_get_or [] (list_map (λ (g : List Grant). map g core.size) laid) f.maps (all ∙ sym maps)
      (λ i lt.
      let within : i < count = omega (arith, lt, all) in
      get_or-map (λ (g : List Grant). map g core.size) laid i [] [] (omega (arith, within, long))
      ∙ ap (λ (g : List Grant). map g core.size) (get_or-map (λ (m : StoredModule). laid_runs 0 m.map) ms i no_stored_module []
      (omega (arith, within, many))
      ∙ ap (λ (m : StoredModule). laid_runs 0 m.map) (at-place i within))
      ∙ map-back i (omega (arith, within, maps)))

  owners-back : owners (laid_runs 0 (runs_of (λ (a b : ℕ). a == b) f.owners)) core.size ≡ f.owners
  owners-back = laid-again (λ (a b : ℕ). a == b) 0 f.owners core.size nat-equality valid.owners

  harts-are : list_map bare_hart (list_map hart_in_state (enumerate_from 0 (list_map stored_hart core.harts)))
      ≡ list_map bare_hart core.harts
  harts-are = harts-back (length core.harts) 0 core.harts (search (arith, core.harts, valid.valid.harts))

  abbrev bare_with : List Module → List Hart → List (List Perm) → List ℕ → Flat
  bare_with modules harts maps owners = record {
    core = record core { modules = modules; harts = harts; caches = [] };
    maps = maps;
    owners = owners;
  }

  pub state-back : AreSame (flat (state_of (stored_of kept f))) f
  state-back =
      search (arith, modules-back, harts-are, maps-back, owners-back)

pub given-back : (kept : KeptPlan) (f : Flat) → IsFlat f → AreSame (flat (state_of (stored_of kept f))) f
given-back kept f valid = state-back kept f valid

-- the plan
names-back : (kept : KeptPlan) (f : Flat) → length f.core.modules ≡ length kept.names
    → list_map (λ (m : StoredModule). m.name) (list_map (named_module kept.names f) (range_with_len 1 (length f.core.modules))) ≡ kept.names
names-back kept f e =
    let one = named_module kept.names f in
    let ms = list_map one (range_with_len 1 (length f.core.modules)) in
    let many : length ms ≡ length f.core.modules = length-map-range_with_len one 1 (length f.core.modules) in
    let long = length-map ms (λ (m : StoredModule). m.name) in
    ext_get_or [] (list_map (λ (m : StoredModule). m.name) ms) kept.names (long ∙ many ∙ e)
    (λ i lt.
    let within : i < length f.core.modules = omega (arith, lt, long, many) in
    let back : 1 + i - 1 ≡ i = omega arith in
    get_or-map (λ (m : StoredModule). m.name) ms i no_stored_module [] (omega (arith, within, many))
    ∙ ap (λ (m : StoredModule). m.name) (get_or-map-range_with_len one 1 (length f.core.modules) i (1 + i) no_stored_module within refl)
    ∙ ap (λ (k : ℕ). get_or kept.names k []) back)

pub plan-back : (kept : KeptPlan) (f : Flat) → IsOfPlan kept f → plan_of (stored_of kept f) ≡ kept
plan-back kept f is =
    let names = list_map (λ (m : StoredModule). m.name) (list_map (named_module kept.names f) (range_with_len 1 (length f.core.modules))) in
    ap (λ x. record kept { kind = x; limit = f.core.limit; lookaside = f.core.buffer; names = names }) is.kind
    ∙ ap (λ x. record kept { limit = x; lookaside = f.core.buffer; names = names }) is.limit
    ∙ ap (λ x. record kept { lookaside = x; names = names }) is.lookaside
    ∙ ap (λ x. record kept { names = x }) (names-back kept f is.modules)
