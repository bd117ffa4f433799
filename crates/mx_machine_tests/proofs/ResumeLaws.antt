-- A small machine of three harts that goes on: the first waits on a grant that no other has heard, the second is halted, the third runs.
use Rattle.std.proofs.Common.{◌≡◌, ℕ, zero, suc, ◌+◌, ◌<◌, ◌≤◌, inr, true, false, List, [], ◌∷◌, length, get_or, replicate, Option, Some}
use Rattle.std.proofs.Common.{unwrap_or, refl, sym, ap, subst, ◌∙◌, arith}
use Rattle.std.specs.Prelude.{All, slice_index}
use Rattle.std.specs.List.{AllByRecursion}
use Rattle.std.proofs.lemmas.List.Elements.{All-cons, All-nil}
use Rattle.mx_words.specs.declared.perm.Span.{Span}
use Rattle.mx_words.specs.Announced.{announced, is_announced}
use Rattle.mx_words.specs.Counting.{list_below}
use Rattle.mx_words.specs.Ranges.{range_words, word_range}
use Rattle.mx_table.proofs.NamedLaws.{everywhere}
use Rattle.mx_check.specs.declared.flight.Flight.{Flight}
use Rattle.mx_check.specs.Calls.{waiting_hart, waiting_harts}
use Rattle.mx_check.specs.Conditions.{IsResumable}
use Rattle.mx_check.specs.Harts.{Kept, kept_at}
use Rattle.mx_model.specs.declared.values.Call.{Call}
use Rattle.mx_supervisor.specs.Heaps.{heap_at}
use Rattle.mx_supervisor.specs.Parts.{Parts}
use Rattle.mx_supervisor.specs.Served.{range_of}
use Rattle.mx_machine.specs.declared.starts.StackArea.{StackArea}
use Rattle.mx_machine.specs.declared.views.HartStatus.{HartStatus}
use Rattle.mx_machine.specs.declared.views.HartStatus.TheVariants as V
use Rattle.mx_machine.specs.Harts.{own_call}
use Rattle.mx_machine.specs.Starts.{IsHartState, IsStack, IsUnused, MayResume, no_state, resumed_hart}
use Rattle.mx_machine_tests.specs.Small.{AreLaid, IsLeft, left_state, left_states, unheard}

-- none of a list of false is true
no-one : {A : Type 0} (n i : ℕ) → get_or (replicate n false) i false ≡ true → A
no-one n i e = let f = everywhere n i false in absurd (let q : ⊥ = cc in q)

-- the call in flight may stand in a checker
pub may-fly : (first count size : ℕ) → size ≡ 16384 → first + count ≤ 16384 → All (IsResumable 3 size) (unheard first count ∷ [])
may-fly first count size e inside =
    All-cons (IsResumable 3 size) (unheard first count) []
    (record { hart = omega arith; range = inr (subst (λ n. first + count ≤ n) (sym e) inside); heard = λ i h. no-one 4 i h })
    (All-nil (IsResumable 3 size))

kept-first : (fs : List Flight) → kept_at (waiting_harts fs 3) 0 ≡ waiting_hart fs 0
unfolding list_below
kept-first fs = refl

kept-second : (fs : List Flight) → kept_at (waiting_harts fs 3) 1 ≡ waiting_hart fs 1
unfolding list_below
kept-second fs = refl

kept-third : (fs : List Flight) → kept_at (waiting_harts fs 3) 2 ≡ waiting_hart fs 2
unfolding list_below
kept-third fs = refl

kept-count : (fs : List Flight) → length (waiting_harts fs 3) ≡ 3
unfolding list_below
kept-count fs = refl

left-state : (p : Parts) (count domain pc : ℕ) (regs : List ℕ) (status : HartStatus) → length p.maps ≡ count → IsLeft count domain pc regs →
    IsHartState p (left_state status domain pc regs)
left-state p count domain pc regs status maps l = record {
  domain = record { first = l.first; last = omega (arith, l.last, maps) };
  pc = l.aligned;
  x0 = l.x0;
  frames = tt;
}

module _ (p : Parts) (count first words d0 pc0 : ℕ) (regs0 : List ℕ) (d1 pc1 : ℕ) (regs1 : List ℕ) (d2 pc2 : ℕ) (regs2 : List ℕ)
    (rows : List (List Span)) (stacks : List StackArea)
    (laid : AreLaid count 3 rows p.ram p.owners p.heaps stacks) (size : p.size ≡ 16384) (maps : length p.maps ≡ count)
    (harts : p.harts ≡ waiting_harts (unheard first words ∷ []) 3) (left0 : IsLeft count d0 pc0 regs0) (left1 : IsLeft count d1 pc1 regs1)
    (left2 : IsLeft count d2 pc2 regs2)
    (number : slice_index regs0 17 ≡ 3) (range : word_range (slice_index regs0 10) (slice_index regs0 11) 16384 ≡ Some (first, words)) where
  abbrev fs : List Flight
  fs = unheard first words ∷ []

  abbrev call : Call
  call = own_call 0 (resumed_hart (left_state V.Waiting d0 pc0 regs0))

  range-is : range_of p call ≡ (first, words)
  range-is =
      let heap = (heap_at p.heaps call.domain).area in
      ap (λ n. announced n (slice_index regs0 10) (slice_index regs0 11) p.size (heap.first, heap.count)) number
      ∙ ap (λ n. range_words (slice_index regs0 10) (slice_index regs0 11) n) size
      ∙ ap (λ (o : Option (ℕ × ℕ)). unwrap_or o (0, 0)) range

  unused : (h : ℕ) → h < 3 → IsUnused p h (get_or (left_states d0 pc0 regs0 d1 pc1 regs1 d2 pc2 regs2) h no_state) (kept_at p.harts h)
  unused zero l =
      subst (λ (k : Kept). IsUnused p 0 (left_state V.Waiting d0 pc0 regs0) k)
      (sym (ap (λ (hs : List Kept). kept_at hs 0) harts ∙ kept-first fs)) (record {
        cache = refl;
        halted = refl;
        domain = refl;
        flight = record {
          announced = ap is_announced number;
          range = record { first = sym (ap (λ (r : ℕ × ℕ). r.0) range-is); count = sym (ap (λ (r : ℕ × ℕ). r.1) range-is) };
        };
      })
  unused (suc zero) l =
      subst (λ (k : Kept). IsUnused p 1 (left_state V.Halted d1 pc1 regs1) k)
      (sym (ap (λ (hs : List Kept). kept_at hs 1) harts ∙ kept-second fs))
      (record { cache = refl; halted = refl; domain = refl; flight = refl })
  unused (suc (suc zero)) l =
      subst (λ (k : Kept). IsUnused p 2 (left_state V.Running d2 pc2 regs2) k)
      (sym (ap (λ (hs : List Kept). kept_at hs 2) harts ∙ kept-third fs))
      (record { cache = refl; halted = refl; domain = refl; flight = refl })
  unused (suc (suc (suc h))) l = absurd (omega (arith, l))

  pub small-resumes : (steps : ℕ) → steps ≤ 1000 → MayResume p (left_states d0 pc0 regs0 d1 pc1 regs1 d2 pc2 regs2) stacks
      (replicate 64 false) steps
  small-resumes steps few = record {
    some_harts = omega arith;
    same_harts = ap (λ (hs : List Kept). length hs) harts ∙ kept-count fs;
    each = (
      left-state p count d0 pc0 regs0 V.Waiting maps left0,
      (left-state p count d1 pc1 regs1 V.Halted maps left1, (left-state p count d2 pc2 regs2 V.Running maps left2, tt)),
    );
    unused = λ h l. unused h l;
    count = laid.one_area ∙ sym maps;
    areas = subst (λ n. AllByRecursion (IsStack n 3) stacks) (sym size) laid.areas;
    dead_modules = λ d e. no-one 64 d e;
    few_steps = omega (arith, few);
  }
