-- Of a valid snapshot's state the same snapshot is stored again.
use Rattle.std.proofs.Common.{◌≡◌, ℕ, ◌+◌, ◌<◌, ◌≤◌, ◌==◌, true, List, [], ◌∷◌, ◌++◌, length, get_or, refl, ap, ◌∙◌, subst, arith}
use Rattle.std.proofs.Common.{length-append}
use Rattle.std.proofs.Common.{map as list_map}
use Rattle.std.specs.List.{AllByRecursion, enumerate_from, range_with_len}
use Rattle.std.proofs.lemmas.Bool.{and_parts, eqb-true}
use Rattle.std.proofs.lemmas.List.{ext_get_or, get_or-map, length-map}
use Rattle.std.proofs.lemmas.List.FromFn.{get_or-map-range_with_len, length-map-range_with_len}
use Rattle.mx_words.specs.declared.perm.Perm.{Perm}
use Rattle.mx_words.specs.Newest.{Grant, map, owners}
use Rattle.mx_words.specs.Rights.{same}
use Rattle.mx_words.specs.Runs.{Run, runs_of}
use Rattle.mx_words.proofs.MaximalRuns.{AreMaximal}
use Rattle.mx_words.proofs.RunLaws.{same_refl}
use Rattle.mx_model.specs.State.{Module, flat, no_module}
use Rattle.mx_machine.specs.declared.views.HartStatus.{HartStatus}
use Rattle.mx_machine.specs.Readings.{status_told}
use Rattle.mx_snapshot.proofs.CodecBounds.{small_place}
use Rattle.mx_snapshot.proofs.ValidAgain.{heard-again, runs-again}
use Rattle.mx_snapshot.proofs.ValidGoes.{no_stored_module}
use Rattle.mx_snapshot.proofs.ValidLists.{each_at, each_holds, each_turned, maximal-from, words-covered}
use Rattle.mx_snapshot.proofs.ValidRuns.{map-covered, nat-itself, owners-covered}
use Rattle.mx_snapshot.proofs.ValidState.{length-harts, length-modules, owner-parts, owners-words}
use Rattle.mx_snapshot.specs.Fits.{EachFits, IsOwnerRun, IsStored, IsStoredHart, IsStoredModule}
use Rattle.mx_snapshot.specs.Resumed.{core_of, hart_in_state, laid_runs, plan_of, state_of, status_in}
use Rattle.mx_snapshot.specs.Rules.{has_place, is_heard, is_next_run, is_other, run_words}
use Rattle.mx_snapshot.specs.Stored.{Head, Stored, StoredHart, StoredModule, heard_of, named_module, stored_hart, stored_of}

-- the runs of a module's map
run-parts : (words runs : ℕ) (before : List (Run Perm)) (r : Run Perm) → is_next_run words runs before r ≡ true
    → (has_place words runs before r.count ≡ true) × (is_other same before r.value ≡ true)
run-parts words runs before r e = and_parts (has_place words runs before r.count) (is_other same before r.value) e

module _ (h : Head) (before : List StoredModule) (m : StoredModule) (is : IsStoredModule h before m) where
  abbrev fits : List (Run Perm) → Run Perm → Type 0
  fits others r = is_next_run h.words (length m.map) others r ≡ true

  pub map-words : run_words m.map ≡ h.words
  map-words = words-covered h.words fits m.map (λ others r e. (run-parts h.words (length m.map) others r e).0) is.some_runs is.map

  some-words : AllByRecursion (λ (r : Run Perm). 0 < r.count) m.map
  some-words = each_holds fits (λ (r : Run Perm). 0 < r.count) (λ others r e.
      (small_place h.words (length m.map) others r.count (run-parts h.words (length m.map) others r e).0).0) m.map [] is.map

  maximal : AreMaximal same m.map
  maximal = maximal-from same m.map [] (each_turned fits (λ others (r : Run Perm). is_other same others r.value ≡ true) (λ others r e.
      (run-parts h.words (length m.map) others r e).1) m.map [] is.map)

  pub map-again : runs_of same (map (laid_runs 0 m.map) h.words) ≡ m.map
  map-again = ap (runs_of same) (map-covered m.map h.words map-words) ∙ runs-again same same_refl m.map some-words maximal

pub owners-again : (s : Stored) → IsStored s → runs_of (λ (a b : ℕ). a == b) (owners (laid_runs 0 s.owners) s.head.words) ≡ s.owners
owners-again s f =
    let runs = length s.owners in
    let fits = IsOwnerRun s.head runs in
    let some = each_holds fits (λ (r : Run ℕ). 0 < r.count) (λ others r is. (small_place s.head.words runs others r.count is.count).0)
    s.owners [] f.owners in
    let maximal = maximal-from (λ (a b : ℕ). a == b) s.owners []
    (each_turned fits (λ others (r : Run ℕ). is_other (λ a b. a == b) others r.value ≡ true) (λ others r is.
    (owner-parts s.head runs others r is).1) s.owners [] f.owners) in
    ap (runs_of (λ (a b : ℕ). a == b)) (owners-covered s.owners s.head.words (owners-words s f))
    ∙ runs-again (λ (a b : ℕ). a == b) nat-itself s.owners some maximal

-- a hart
hart-again : (harts n : ℕ) (x : StoredHart) (status : HartStatus) → harts ≤ 4 → is_heard harts n status x.heard ≡ true →
    ◌≡◌ {A = StoredHart} (record {
      status = status_told (status_in n x status);
      domain = x.domain;
      pc = x.pc;
      regs = x.regs;
      frames = x.frames;
      heard = heard_of (status_in n x status);
    }) (record x { status = status })
hart-again harts n x x1 few e = grind (arith, eqb-true, heard-again)

harts-from : (h : Head) (xs before : List StoredHart) (n : ℕ) → length before ≡ n → h.harts ≤ 4 → EachFits (IsStoredHart h) before xs
    → list_map stored_hart (list_map hart_in_state (enumerate_from n xs)) ≡ xs
harts-from h [] before n count few f = refl
harts-from h (x ∷ xs) before n count few f =
    let heard = subst (λ (k : ℕ). is_heard h.harts k x.status x.heard ≡ true) count f.0.heard in
    ap (λ (y : StoredHart). y ∷ list_map stored_hart (list_map hart_in_state (enumerate_from (n + 1) xs)))
    (hart-again h.harts n x x.status few heard)
    ∙ ap (λ (ys : List StoredHart). x ∷ ys) (harts-from h xs (before ++ x ∷ []) (n + 1)
    (omega (arith, count, length-append before (x ∷ []))) few f.1)

-- a module by the name, the module and the map at its place
abbrev place_of : List (List ℕ) → List Module → List (List Perm) → ℕ → ℕ → StoredModule
place_of names homes maps words k = record {
  name = get_or names k [];
  home = get_or homes k no_module;
  map =
      runs_of same (get_or maps k (map [] words));
}

module _ (s : Stored) (f : IsStored s) where
  abbrev ms : List StoredModule
  ms = s.modules

  abbrev words : ℕ
  words = s.head.words

  abbrev names : List (List ℕ)
  names = list_map (λ (m : StoredModule). m.name) ms

  abbrev homes : List Module
  homes = list_map (λ (m : StoredModule). m.home) ms

  abbrev laid : List (List Grant)
  laid = list_map (λ (m : StoredModule). laid_runs 0 m.map) ms

  abbrev maps : List (List Perm)
  maps = list_map (λ (g : List Grant). map g words) laid

  place-is : (i : ℕ) → i < length ms → place_of names homes maps words i ≡ get_or ms i no_stored_module
  place-is i lt =
      let m = get_or ms i no_stored_module in
      let found = each_at (IsStoredModule s.head) ms [] f.modules i no_stored_module lt in
      let name : get_or names i [] ≡ m.name = get_or-map (λ (m : StoredModule). m.name) ms i no_stored_module [] lt in
      let home : get_or homes i no_module ≡ m.home = get_or-map (λ (m : StoredModule). m.home) ms i no_stored_module no_module lt in
      let rights : get_or maps i (map [] words) ≡ map (laid_runs 0 m.map) words =
      get_or-map (λ (g : List Grant). map g words) laid i [] (map [] words)
      (omega (arith, lt, length-map ms (λ (m : StoredModule). laid_runs 0 m.map)))
      ∙ ap (λ (g : List Grant). map g words) (get_or-map (λ (m : StoredModule). laid_runs 0 m.map) ms i no_stored_module [] lt) in
      ap (λ (x : List ℕ). record { name = x; home = get_or homes i no_module; map = runs_of same (get_or maps i (map [] words)) }) name
      ∙ ap (λ (x : Module). record { name = m.name; home = x; map = runs_of same (get_or maps i (map [] words)) }) home
      ∙ ap (λ (x : List Perm). record { name = m.name; home = m.home; map = runs_of same x }) rights
      ∙ ap (λ (x : List (Run Perm)). record { name = m.name; home = m.home; map = x }) (map-again s.head found.0 m found.2)

  modules-again : list_map (named_module names (flat (state_of s))) (range_with_len 1 (length homes)) ≡ ms
  modules-again =
      let one = named_module names (flat (state_of s)) in
      let long = length-map ms (λ (m : StoredModule). m.home) in
      let many = length-map-range_with_len one 1 (length homes) in
      ext_get_or no_stored_module (list_map one (range_with_len 1 (length homes))) ms (many ∙ long)
      (search (arith, ms, get_or-map-range_with_len, homes, no_stored_module, place_of, names, maps, words, place-is))

  abbrev stored_with : ℕ → ℕ → List StoredModule → List (Run ℕ) → List StoredHart → Stored
  stored_with modules harts stored owners others = record {
    head = record s.head { modules = modules; harts = harts };
    modules = stored;
    owners = owners;
    gates = s.gates;
    harts = others;
    ram = s.ram;
  }

  pub again : stored_of (plan_of s) (flat (state_of s)) ≡ s
  again =
      let core = core_of s in
      let stored = list_map (named_module names (flat (state_of s))) (range_with_len 1 (length homes)) in
      let runs = runs_of (λ (a b : ℕ). a == b) (owners (laid_runs 0 s.owners) words) in
      let others = list_map stored_hart core.harts in
      ap (λ (k : ℕ). stored_with k (length core.harts) stored runs others) (length-modules s f)
      ∙ ap (λ (k : ℕ). stored_with s.head.modules k stored runs others) (length-harts s f)
      ∙ ap (λ (x : List StoredModule). stored_with s.head.modules s.head.harts x runs others) modules-again
      ∙ ap (λ (x : List (Run ℕ)). stored_with s.head.modules s.head.harts ms x others) (owners-again s f)
      ∙ ap (λ (x : List StoredHart). stored_with s.head.modules s.head.harts ms s.owners x)
      (harts-from s.head s.harts [] 0 refl f.head.harts.1 f.harts)

pub stored-again : (s : Stored) → IsStored s → stored_of (plan_of s) (flat (state_of s)) ≡ s
stored-again s f = again s f
