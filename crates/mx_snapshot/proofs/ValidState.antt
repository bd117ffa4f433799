-- The state of a valid snapshot is valid, and so is the plan that it keeps.
use Rattle.std.proofs.Common.{◌≡◌, ℕ, ◌*◌, ◌<◌, ◌≤◌, ◌==◌, true, false, not, nat_lt, nat_le, List, [], length, get_or, sym, ap, ◌∙◌, subst}
use Rattle.std.proofs.Common.{arith}
use Rattle.std.specs.List.{AllByRecursion, enumerate_from}
use Rattle.std.proofs.lemmas.Bool.{and_parts, leb-true, ltb-true, not-true}
use Rattle.std.proofs.lemmas.List.{length-map}
use Rattle.std.proofs.lemmas.List.FromFn.{length-enumerate_from}
use Rattle.mx_words.specs.Newest.{owners}
use Rattle.mx_words.specs.Runs.{Run}
use Rattle.mx_words.proofs.OverlayLaws.{length-map_of, length-owners}
use Rattle.mx_model.specs.declared.values.Gate.{Gate}
use Rattle.mx_model.specs.Gates.{has_gate}
use Rattle.mx_model.specs.State.{Hart, flat, hart_at}
use Rattle.mx_model.specs.Valid.{IsFlat, IsGate, IsHart, IsHome, IsValid}
use Rattle.mx_model.proofs.ListLaws.{all-at}
use Rattle.mx_model.proofs.ValidCaches.{cache-none}
use Rattle.mx_model.proofs.EachLaws.{all_each, all_mapped}
use Rattle.mx_snapshot.proofs.CodecBounds.{small_area, within_range}
use Rattle.mx_snapshot.proofs.ValidHarts.{hart-at, hart-fits, no_stored}
use Rattle.mx_snapshot.proofs.ValidLists.{all-covered, area-none, blocks-apart, each_at, each_holds, each_turned, gates-single}
use Rattle.mx_snapshot.proofs.ValidLists.{words-covered}
use Rattle.mx_snapshot.proofs.ValidRuns.{owners-covered, owners-whole}
use Rattle.mx_snapshot.specs.Fits.{IsOwnerRun, IsStored, IsStoredGate, IsStoredHart, IsStoredModule}
use Rattle.mx_snapshot.specs.Kept.{IsOfPlan}
use Rattle.mx_snapshot.specs.Resumed.{core_of, hart_in_state, laid_runs, plan_of, state_of}
use Rattle.mx_snapshot.specs.Rules.{is_other, run_words}
use Rattle.mx_snapshot.specs.Stored.{Head, Stored, StoredModule}

-- the runs of owner of a valid snapshot
pub owners-words : (s : Stored) → IsStored s → run_words s.owners ≡ s.head.words
owners-words s f =
    words-covered s.head.words (IsOwnerRun s.head (length s.owners)) s.owners (λ before r is. is.count) f.owner_runs.0 f.owners

pub owner-parts : (h : Head) (runs : ℕ) (before : List (Run ℕ)) (r : Run ℕ) → IsOwnerRun h runs before r
    → (r.value ≤ h.modules) × (is_other (λ a b. a == b) before r.value ≡ true)
owner-parts h runs before r is =
    let p = and_parts (nat_le r.value h.modules) (is_other (λ a b. a == b) before r.value) is.owner in
    (leb-true r.value h.modules p.0, p.1)

owner-small : (s : Stored) → IsStored s → (i : ℕ) → get_or (owners (laid_runs 0 s.owners) s.head.words) i 0 ≤ s.head.modules
owner-small s f i =
    let each = each_holds (IsOwnerRun s.head (length s.owners)) (λ (r : Run ℕ). r.value ≤ s.head.modules) (λ before r is.
    (owner-parts s.head (length s.owners) before r is).0) s.owners [] f.owners in
    subst (λ (os : List ℕ). get_or os i 0 ≤ s.head.modules) (sym (owners-covered s.owners s.head.words (owners-words s f)))
    (all-at (λ (n : ℕ). n ≤ s.head.modules) _ 0 (all-covered (λ (n : ℕ). n ≤ s.head.modules) s.owners each) (omega arith) i)

-- a module's areas and blocks
pub home-fits : (h : Head) (before : List StoredModule) (m : StoredModule) → IsStoredModule h before m → IsHome h.words h.harts m.home
home-fits h before m is = record {
  heap = small_area h.words m.home.heap.first m.home.heap.count is.heap;
  blocks = blocks-apart m.home.heap m.home.blocks is.blocks;
  stack = small_area h.words m.home.stack.first (m.home.stack.words * h.harts) is.stack;
  few_blocks = is.few_blocks;
  no_heap = λ none. area-none h.words m.home.heap.first m.home.heap.count is.heap none;
  no_stack = λ none. area-none h.words m.home.stack.first (m.home.stack.words * h.harts) is.stack (ap (λ (n : ℕ). n * h.harts) none
      ∙ omega arith);
}

-- gates
gate-fits : (h : Head) (before : List Gate) (g : Gate) → IsStoredGate h before g
    → IsGate h.modules h.words g × (has_gate before g.domain g.word ≡ false)
gate-fits h before g is =
    let p = and_parts (nat_lt g.word h.words) (not (has_gate before g.domain g.word)) is.word in (
      record {
        domain = record { first = is.domain.0; last = is.domain.1 };
        target = record { first = is.target.0; last = is.target.1 };
        word = ltb-true g.word h.words p.0;
      },
      not-true (has_gate before g.domain g.word) p.1,
    )

module _ (s : Stored) (f : IsStored s) where
  abbrev h : Head
  h = s.head

  pub length-modules : length (core_of s).modules ≡ h.modules
  length-modules = length-map s.modules (λ (m : StoredModule). m.home) ∙ f.module_count

  pub length-harts : length (core_of s).harts ≡ h.harts
  length-harts = length-map (enumerate_from 0 s.harts) hart_in_state ∙ length-enumerate_from 0 s.harts ∙ f.hart_count

  harts-fit : (n : ℕ) → n < length (core_of s).harts → IsHart (length (core_of s).modules) (length (core_of s).harts) n
      (hart_at (core_of s) n)
  harts-fit n lt =
      let many = length-harts in
      let total = f.hart_count in
      let within : n < length s.harts = omega (arith, lt, many, total) in
      let found = each_at (IsStoredHart h) s.harts [] f.harts n no_stored within in
      let count = found.1 in
      let fits : IsHart h.modules h.harts n (hart_in_state (n, get_or s.harts n no_stored)) =
      hart-fits h found.0 (get_or s.harts n no_stored) n (omega (arith, count)) found.2 in
      let one = subst (λ (k : ℕ). IsHart k h.harts n (hart_in_state (n, get_or s.harts n no_stored))) (sym length-modules) fits in
      let two = subst (λ (k : ℕ). IsHart (length (core_of s).modules) k n (hart_in_state (n, get_or s.harts n no_stored)))
      (sym length-harts) one in
      subst (λ (x : Hart). IsHart (length (core_of s).modules) (length (core_of s).harts) n x) (sym (hart-at s.harts n within)) two

  homes-fit : AllByRecursion (IsHome h.words (length (core_of s).harts)) (core_of s).modules
  homes-fit = search (arith, length-harts, all_mapped, each_holds, home-fits)

  pub gates-in : AllByRecursion (IsGate h.modules h.words) s.gates
  gates-in = each_holds (IsStoredGate h) (IsGate h.modules h.words) (λ before g is. (gate-fits h before g is).0) s.gates [] f.gates

  pub core-valid : IsValid (core_of s)
  core-valid =
      search (
        arith,
        within_range,
        h.words,
        and_parts,
        length-modules,
        length-harts,
        all-at,
        s.ram,
        f.ram,
        homes-fit,
        harts-fit,
        length-map,
        s.harts,
        gates-in,
        gates-single,
        s.gates,
        each_turned,
        h,
        gate-fits,
      )

  pub stored-state : IsFlat (flat (state_of s))
  stored-state =
      search (
        arith,
        owners-whole,
        s.owners,
        h.words,
        owners-words,
        core-valid,
        length-map,
        s.modules,
        all_mapped,
        all_each,
        length-map_of,
        length-modules,
        owner-small,
        s.harts,
        h.lookaside,
        cache-none,
        length-owners (laid_runs 0 s.owners) h.words,
      )

pub stored-flat : (s : Stored) → IsStored s → IsFlat (flat (state_of s))
stored-flat s f = stored-state s f

-- one list of grants for each module, and the plan that is kept
pub state-lists : (s : Stored) → length (state_of s).grants ≡ length (state_of s).core.modules
state-lists s = length-map s.modules (λ (m : StoredModule). laid_runs 0 m.map) ∙ sym (length-map s.modules (λ (m : StoredModule). m.home))

pub plan-is : (s : Stored) → IsOfPlan (plan_of s) (flat (state_of s))
plan-is s = search (arith, length-map, s.modules)
