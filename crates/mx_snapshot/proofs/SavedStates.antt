-- A snapshot of a valid state of a machine, of a plan in its ranges, is valid.
use Rattle.std.proofs.Common.{◌≡◌, ◌⊎◌, ℕ, ◌+◌, ◌-◌, ◌*◌, ◌^◌, ◌<◌, ◌≤◌, ◌==◌, Bool, true, false, not, nat_lt, nat_le, List, [], ◌∷◌}
use Rattle.std.proofs.Common.{length, get_or, take, slice_get, Some, refl, sym, ap, ◌∙◌, subst, arith, length-take-le, get_or-take}
use Rattle.std.proofs.Common.{map as list_map}
use Rattle.std.specs.List.{list_all, list_any, range_with_len}
use Rattle.std.specs.Str.{bytes_eq}
use Rattle.std.proofs.lemmas.Bool.{and_from, cases_eq, eq-eqb, false_from_ne_true, le-leb, lt-ltb, not_from_false, or_left, or_right}
use Rattle.std.proofs.lemmas.List.{get_or-map, get_or_default, length-map}
use Rattle.std.proofs.lemmas.List.Elements.{All-from_get_or, recursion_from_All}
use Rattle.std.proofs.lemmas.List.Folds.{list_any_none}
use Rattle.std.proofs.lemmas.List.FromFn.{get_or-map-range_with_len, length-map-range_with_len}
use Rattle.std.proofs.lemmas.Option.{slice_get-get_or}
use Rattle.std.proofs.lemmas.Slice.Eq.{bytes_eq-Decides}
use Rattle.mx_words.specs.Rights.{same}
use Rattle.mx_words.specs.Runs.{Run, runs_of}
use Rattle.mx_words.proofs.MaximalRuns.{covered-runs_of, maximal-runs_of, some-runs_of, IsEquality}
use Rattle.mx_words.specs.Limits.{is_buffer}
use Rattle.mx_model.specs.Gates.{has_gate, is_at}
use Rattle.mx_model.specs.Reads.{map_in}
use Rattle.mx_model.specs.State.{Core, Flat, no_hart}
use Rattle.mx_model.specs.Valid.{IsFlat, IsGate, IsHome}
use Rattle.mx_model.proofs.ApartLaws.{at-flipped}
use Rattle.mx_model.proofs.ListLaws.{all-in}
use Rattle.mx_manifest.specs.Forms.{is_name_byte}
use Rattle.mx_snapshot.proofs.CodecBounds.{each_both, each_part}
use Rattle.mx_snapshot.proofs.SavedFits.{FitsAsRun, Other, blocks-from, each-from, hart-stored, runs-from, values-in}
use Rattle.mx_snapshot.proofs.ValidLists.{each_turned}
use Rattle.mx_snapshot.proofs.ValidRuns.{length-covered, nat-equality, perm-equality}
use Rattle.mx_snapshot.specs.Fits.{EachFits, IsHead, IsOwnerRun, IsStored, IsStoredGate, IsStoredHart, IsStoredModule}
use Rattle.mx_snapshot.specs.Kept.{IsKept, IsOfPlan, KeptPlan}
use Rattle.mx_snapshot.specs.Rules.{has_place, is_area, is_new_name, is_next_run, is_other, is_ram, run_words}
use Rattle.mx_snapshot.specs.Stored.{Head, StoredHart, StoredModule, head_of, named_module, stored_hart, stored_of}

buffer-from : (n : ℕ) → (n ≡ 8) ⊎ (n ≡ 32) ⊎ (n ≡ 64) → is_buffer n ≡ true
buffer-from n x = grind arith

area-from : (words first count : ℕ) → first + count ≤ words → (count ≡ 0 → first ≡ 0) → is_area words first count ≡ true
area-from words first count le none = search (arith, and_from, le-leb, or_right, eq-eqb, or_left, lt-ltb, cases_eq)

-- the maximal runs of a list
other-first : {A : Type 0} (eq : A → A → Bool) (xs : List (Run A)) → Other eq [] xs
other-first eq [] = tt
other-first eq (x ∷ xs) = refl

module _ {A : Type 0} (eq : A → A → Bool) (h : IsEquality eq) (xs : List A) (words : ℕ) (long : length xs ≡ words) where
  runs-words : run_words (runs_of eq xs) ≡ words
  runs-words = sym (length-covered (runs_of eq xs)) ∙ ap length (covered-runs_of eq h xs) ∙ long

  runs-fit : EachFits (FitsAsRun eq words (length (runs_of eq xs))) [] (runs_of eq xs)
  runs-fit =
      let total = runs-words in
      runs-from eq words (length (runs_of eq xs)) (runs_of eq xs) [] (some-runs_of eq xs) (maximal-runs_of eq h xs)
      (other-first eq (runs_of eq xs)) (omega (arith, total)) (omega arith)

  runs-some : 1 ≤ words → 1 ≤ length (runs_of eq xs)
  runs-some some = any (runs_of eq xs) (let total = runs-words in let le : 1 ≤ run_words (runs_of eq xs) = omega (arith, total, some) in le)
    where
      any : (rs : List (Run A)) → 1 ≤ run_words rs → 1 ≤ length rs
      any [] le = absurd (let q : ⊥ = omega (arith, le) in q)
      any (r ∷ rs) le = omega arith

module _ (kept : KeptPlan) (f : Flat) (in_range : IsKept kept) (plan : IsOfPlan kept f) (valid : IsFlat f) (ram : is_ram f.core.size ≡ true)
    (turns : f.core.turns ≤ 2 ^ 63 - 1) where
  abbrev core : Core
  core = f.core

  abbrev count : ℕ
  count = length core.modules

  abbrev h : Head
  h = head_of kept f

  abbrev one : ℕ → StoredModule
  one d = named_module kept.names f d

  abbrev ms : List StoredModule
  ms = list_map one (range_with_len 1 count)

  head-fits : IsHead h
  head-fits = search (arith, buffer-from, kept.lookaside)

  -- names
  name-at : (i : ℕ) → i < count → slice_get kept.names i ≡ Some (get_or kept.names i [])
  name-at i lt = slice_get-get_or kept.names i [] (omega (arith, lt))

  names-differ : (i k : ℕ) → i < count → k < i → bytes_eq (get_or kept.names k []) (get_or kept.names i []) ≡ false
  names-differ i k lt below = false_from_ne_true (bytes_eq (get_or kept.names k []) (get_or kept.names i []))
      (λ e.
      let alike : get_or kept.names k [] ≡ get_or kept.names i [] =
      (bytes_eq-Decides (get_or kept.names k []) (get_or kept.names i [])).0 e in
      let same_place = in_range.apart k i (get_or kept.names i []) (name-at k (omega (arith, lt, below)) ∙ ap Some alike) (name-at i lt) in
      let q : ⊥ = omega (arith, same_place, below) in q)

  length-ms : length ms ≡ count
  length-ms = length-map-range_with_len one 1 count

  module-at : (i : ℕ) (d : StoredModule) → i < count → get_or ms i d ≡ one (1 + i)
  module-at i d lt = get_or-map-range_with_len one 1 count i (1 + i) d lt refl

  name-is : (i : ℕ) → (one (1 + i)).name ≡ get_or kept.names i []
  name-is i = ap (λ (k : ℕ). get_or kept.names k []) (omega arith)

  none-named : (i : ℕ) → i < count → list_any (λ (m : StoredModule). bytes_eq m.name (get_or kept.names i [])) (take i ms) ≡ false
  none-named i lt =
      let many = length-ms in
      let part : length (take i ms) ≡ i = length-take-le i ms (omega (arith, lt, many)) in
      list_any_none (λ (m : StoredModule). bytes_eq m.name (get_or kept.names i [])) (take i ms)
      (λ k d below.
      let before : k < i = omega (arith, below, part) in
      ap (λ (m : StoredModule). bytes_eq m.name (get_or kept.names i [])) (get_or-take i ms k d before
      ∙ module-at k d (omega (arith, lt, before)))
      ∙ ap (λ (name : List ℕ). bytes_eq name (get_or kept.names i [])) (name-is k)
      ∙ names-differ i k lt before)

  -- module i + 1 behind those before it
  home-at : (i : ℕ) → i < count → IsHome core.size (length core.harts) (one (1 + i)).home
  home-at i lt = search (arith, core.size, core.modules, all-in, valid.valid.modules)

  map-long : (i : ℕ) → i < count → length (map_in core.size f.maps (1 + i)) ≡ core.size
  map-long i lt = search (arith, f.maps, all-in)

  module-fits : (i : ℕ) → i < count → IsStoredModule h (take i ms) (one (1 + i))
  module-fits i lt =
      let home = home-at i lt in
      let name = name-is i in
      let is = in_range.names i (get_or kept.names i []) (name-at i lt) in
      let some = valid.valid.some_words in
      let harts = valid.valid.some_harts in
      let long = map-long i lt in
      let m = map_in core.size f.maps (1 + i) in
      let stack = (one (1 + i)).home.stack in
      record {
        name_length = subst (λ (x : List ℕ). (1 ≤ length x) × (length x ≤ 32)) (sym name) is.0;
        name = subst (λ (x : List ℕ). is_new_name (take i ms) x ≡ true) (sym name)
            (and_from (list_all is_name_byte (get_or kept.names i []))
            (not (list_any (λ (m : StoredModule). bytes_eq m.name (get_or kept.names i [])) (take i ms))) is.1
            (not_from_false (list_any (λ (m : StoredModule). bytes_eq m.name (get_or kept.names i [])) (take i ms)) (none-named i lt)));
        heap = area-from core.size (one (1 + i)).home.heap.first (one (1 + i)).home.heap.count home.heap home.no_heap;
        stack = area-from core.size stack.first (stack.words * length core.harts) home.stack
            (λ e. let part = each_part stack.words (length core.harts) harts in home.no_stack (omega (arith, part, e)));
        few_blocks = home.few_blocks;
        blocks = blocks-from (one (1 + i)).home.heap (one (1 + i)).home.blocks [] home.blocks;
        some_runs = runs-some same perm-equality m core.size long some;
        map = each_turned (FitsAsRun same core.size (length (runs_of same m))) (λ others r.
            is_next_run core.size (length (runs_of same m)) others r ≡ true)
            (λ others r fits. and_from (has_place core.size (length (runs_of same m)) others r.count) (is_other same others r.value) fits.0
            fits.1) (runs_of same m) [] (runs-fit same perm-equality m core.size long);
      }

  modules-fit : EachFits (IsStoredModule h) [] ms
  modules-fit =
      let many = length-ms in
      each-from (IsStoredModule h) ms [] (λ i d lt.
      let within : i < count = omega (arith, lt, many) in
      subst (λ (m : StoredModule). IsStoredModule h (take i ms) m) (sym (module-at i d within)) (module-fits i within))

  -- owners
  abbrev owner_runs : List (Run ℕ)
  owner_runs = runs_of (λ (a b : ℕ). a == b) f.owners

  owners-fit : EachFits (IsOwnerRun h (length owner_runs)) [] owner_runs
  owners-fit =
      let small = recursion_from_All (λ (n : ℕ). n ≤ count) f.owners
      (All-from_get_or (λ (n : ℕ). n ≤ count) f.owners 0 (λ i lt. valid.small_owners i)) in
      let both = each_both (FitsAsRun (λ (a b : ℕ). a == b) core.size (length owner_runs)) (λ (r : Run ℕ). r.value ≤ count) owner_runs []
      (runs-fit (λ (a b : ℕ). a == b) nat-equality f.owners core.size valid.owners)
      (values-in (λ (a b : ℕ). a == b) (λ (n : ℕ). n ≤ count) f.owners small) in
      each_turned (λ others (r : Run ℕ). (r.value ≤ count) × FitsAsRun (λ (a b : ℕ). a == b) core.size (length owner_runs) others r)
      (IsOwnerRun h (length owner_runs))
      (λ others r fits. record {
        count = fits.1.0;
        owner = and_from (nat_le r.value count) (is_other (λ (a b : ℕ). a == b) others r.value) (le-leb r.value count fits.0) fits.1.1;
      }) owner_runs [] both

  -- gates
  gates-fit : EachFits (IsStoredGate h) [] core.gates
  gates-fit = each-from (IsStoredGate h) core.gates []
      (λ i d lt.
      let g = get_or core.gates i d in
      let is = all-in (IsGate count core.size) core.gates d valid.valid.gates i lt in
      let part : length (take i core.gates) ≡ i = length-take-le i core.gates (omega (arith, lt)) in
      let none : has_gate (take i core.gates) g.domain g.word ≡ false = list_any_none (is_at g.domain g.word) (take i core.gates)
      (λ k e below.
      let before : k < i = omega (arith, below, part) in
      let within : k < length core.gates = omega (arith, before, lt) in
      ap (is_at g.domain g.word) (get_or-take i core.gates k e before ∙ get_or_default core.gates k e d within)
      ∙ at-flipped (get_or core.gates k d) g (valid.valid.one_gate k i d before lt)) in
      record {
        domain = (is.domain.first, is.domain.last);
        word = and_from (nat_lt g.word core.size) (not (has_gate (take i core.gates) g.domain g.word)) (lt-ltb g.word core.size is.word)
            (not_from_false (has_gate (take i core.gates) g.domain g.word) none);
        target = (is.target.first, is.target.last);
      })

  -- harts
  harts-fit : EachFits (IsStoredHart h) [] (list_map stored_hart core.harts)
  harts-fit =
      let many = length-map core.harts stored_hart in
      let few = valid.valid.few_harts in
      each-from (IsStoredHart h) (list_map stored_hart core.harts) []
      (λ i d lt.
      let within : i < length core.harts = omega (arith, lt, many) in
      let part : length (take i (list_map stored_hart core.harts)) ≡ i =
      length-take-le i (list_map stored_hart core.harts) (omega (arith, lt)) in
      subst (λ (x : StoredHart). IsStoredHart h (take i (list_map stored_hart core.harts)) x)
      (sym (get_or-map stored_hart core.harts i no_hart d within))
      (hart-stored h i (get_or core.harts i no_hart) (take i (list_map stored_hart core.harts)) part (omega (arith, within, few))
      (valid.valid.harts i within)))

  pub saved : IsStored (stored_of kept f)
  saved = record {
    head = head-fits;
    module_count = length-ms;
    modules = modules-fit;
    owner_runs = (runs-some (λ (a b : ℕ). a == b) nat-equality f.owners core.size valid.owners valid.valid.some_words, valid.few_runs);
    owners = owners-fit;
    few_gates = valid.valid.few_gates;
    gates = gates-fit;
    hart_count = length-map core.harts stored_hart;
    harts = harts-fit;
    ram_count = valid.valid.ram_count;
    ram = recursion_from_All (λ (byte : ℕ). byte < 2 ^ 8) core.ram
        (All-from_get_or (λ (byte : ℕ). byte < 2 ^ 8) core.ram 0 (λ i lt. valid.valid.ram_bytes i));
  }

pub saved-fits : (kept : KeptPlan) (f : Flat) → IsKept kept → IsOfPlan kept f → IsFlat f → is_ram f.core.size ≡ true
    → f.core.turns ≤ 2 ^ 63 - 1 → IsStored (stored_of kept f)
saved-fits kept f in_range plan valid ram turns = saved kept f in_range plan valid ram turns
