-- Small machines made by hand: their parts belong together, and they may start.
use Rattle.std.proofs.Common.{◌≡◌, ℕ, zero, suc, ◌+◌, ◌-◌, ◌≤◌, ◌≢◌, ◌==◌, inr, Bool, true, cond, List, [], ◌∷◌, ◌++◌, length, rules, Ok}
use Rattle.std.proofs.Common.{Err, false, refl, sym, ap, subst, ◌∙◌, arith}
use Rattle.std.specs.Prelude.{All, OnErr, OnOk}
use Rattle.std.specs.declared.result.Result.{Result}
use Rattle.std.specs.List.{AllByRecursion}
use Rattle.std.proofs.lemmas.List.Elements.{All-append}
use Rattle.std.proofs.lemmas.List.{length-append}
use Rattle.std.proofs.Math.Nat.{mul-le-mul_left}
use Rattle.mx_words.specs.declared.perm.Span.{Span}
use Rattle.mx_check.specs.Calls.{new_harts}
use Rattle.mx_heap.specs.HeapState.{HeapState}
use Rattle.mx_model.specs.declared.values.Gate.{Gate}
use Rattle.mx_model.specs.Gates.{with_gate, without_gate}
use Rattle.mx_model.specs.Valid.{IsGate}
use Rattle.mx_model.proofs.JoinLaws.{all-weaker}
use Rattle.mx_model.proofs.ListLaws.{all-append, all-at, all-filter}
use Rattle.mx_supervisor.specs.Heaps.{heap_at, no_area, no_heap, told_heap}
use Rattle.mx_supervisor.specs.Parts.{Parts, AreJoined}
use Rattle.mx_table.specs.Tables.{IsRow}
use Rattle.mx_machine.specs.declared.starts.HartStart.{HartStart}
use Rattle.mx_machine.specs.declared.starts.StackArea.{StackArea}
use Rattle.mx_machine.specs.Starts.{IsStack, IsStart, MayStart}
use Rattle.mx_machine_tests.specs.Small.{AreLaid, HasArea, IsBegin, IsPlaced}

-- a heap that is told lies where it lies
told-area : (heap : HeapState) → HasArea heap → HasArea (told_heap heap)
told-area heap inside = elim (heap.area.count == 0) as (λ (b : Bool).
    (cond b no_area heap.area).first + (cond b no_area heap.area).count ≤ 16384) [
      | true ↦ omega arith
      | false ↦ inside
    ]

-- gates of so many modules
pub small-gates : (count modules words : ℕ) (gates : List Gate) → modules ≡ count → words ≡ 16384
    → AllByRecursion (IsGate count 16384) gates → AllByRecursion (IsGate modules words) gates
small-gates count modules words gates maps size h =
    subst (λ n. AllByRecursion (IsGate n words) gates) (sym maps) (subst (λ n. AllByRecursion (IsGate count n) gates) (sym size) h)

module _ (p : Parts) (count harts : ℕ) (rows : List (List Span)) (stacks : List StackArea)
    (laid : AreLaid count harts rows p.ram p.owners p.heaps stacks) (size : p.size ≡ 16384) (maps : length p.maps ≡ count) where
  pub small-joined : AreJoined p
  small-joined = record {
    ram = omega (arith, size, laid.bytes);
    owners = laid.words ∙ sym size;
    heaps = laid.one_heap ∙ sym maps;
    areas = λ d. subst (λ n. (heap_at p.heaps d).area.first + (heap_at p.heaps d).area.count ≤ n) (sym size)
        (all-at HasArea p.heaps no_heap laid.heap_areas (omega arith) (d - 1));
  }

  pub small-starts : (starts : List HartStart) → 1 ≤ harts → length starts ≡ harts → p.harts ≡ new_harts harts
      → AllByRecursion (IsBegin count) starts → MayStart p starts stacks
  small-starts starts some number new each = record {
    some_harts = omega (arith, some, number);
    new = new ∙ ap new_harts (sym number);
    each = all-weaker (IsBegin count) (IsStart p) starts (λ s b.
        record { domain = record { first = b.first; last = omega (arith, b.last, maps) }; pc = b.pc }) each;
    count = laid.one_area ∙ sym maps;
    areas = subst (λ n. AllByRecursion (IsStack n (length starts)) stacks) (sym size)
        (subst (λ n. AllByRecursion (IsStack 16384 n) stacks) (sym number) laid.areas);
  }

-- a module more is laid out
pub laid-more : (count harts : ℕ) (rows more : List (List Span)) (ram owners ram' owners' : List ℕ) (heaps heaps' : List HeapState)
    (stacks stacks' : List StackArea)
    (row : List Span) (heap : HeapState) (stack : StackArea) (first code : ℕ) → AreLaid count harts rows ram owners heaps stacks
    → IsPlaced first code stack.first stack.words → harts ≤ 4 →
    IsRow 16384 row → more ≡ rows ++ row ∷ [] → length ram' ≡ 65536 → length owners' ≡ 16384 → HasArea heap →
    heaps' ≡ heaps ++ told_heap heap ∷ [] → stacks' ≡ stacks ++ stack ∷ [] → AreLaid (count + 1) harts more ram' owners' heaps' stacks'
laid-more count harts rows more ram owners ram' owners' heaps heaps' stacks stacks' row heap stack first code laid placed few is_row pushed
    bytes own area hs ss = record {
      one_each = ap (λ (xs : List (List Span)). length xs) pushed ∙ length-append rows (row ∷ []) ∙ ap (λ k. k + 1) laid.one_each;
      are_rows = subst (λ (xs : List (List Span)). All (IsRow 16384) xs) (sym pushed)
          (All-append (IsRow 16384) rows (row ∷ []) laid.are_rows (search (rules, is_row)));
      bytes = bytes;
      words = own;
      one_heap = ap (λ (xs : List HeapState). length xs) hs ∙ length-append heaps (told_heap heap ∷ []) ∙ ap (λ k. k + 1) laid.one_heap;
      heap_areas = subst (λ (xs : List HeapState). AllByRecursion HasArea xs) (sym hs)
          (all-append HasArea heaps (told_heap heap) laid.heap_areas (told-area heap area));
      one_area = ap (λ (xs : List StackArea). length xs) ss ∙ length-append stacks (stack ∷ []) ∙ ap (λ k. k + 1) laid.one_area;
      areas = subst (λ (xs : List StackArea). AllByRecursion (IsStack 16384 harts) xs) (sym ss)
          (all-append (IsStack 16384 harts) stacks stack laid.areas
          (inr (omega (arith, placed.within, mul-le-mul_left {m = harts} {n = 4} stack.words few))));
    }

-- a gate more, or the same gates
pub gates-more : {A E : Type 0} (r : Result A E) (modules : ℕ) (old new : List Gate) (g : Gate) → AllByRecursion (IsGate modules 16384) old
    → IsGate modules 16384 g →
    OnOk r (new ≡ with_gate g old) → OnErr r (new ≡ old) → AllByRecursion (IsGate modules 16384) new
gates-more (Ok x) modules old new g all is a b =
    subst (λ (gs : List Gate). AllByRecursion (IsGate modules 16384) gs) (sym a)
    (all-append (IsGate modules 16384) (without_gate g.domain g.word old) g (all-filter (IsGate modules 16384) _ old all) is)
gates-more (Err x) modules old new g all is a b = subst (λ (gs : List Gate). AllByRecursion (IsGate modules 16384) gs) (sym b) all

pub some-there : (n : ℕ) → n ≢ 0 → 1 ≤ n
some-there zero ne = absurd (ne refl)
some-there (suc n) ne = omega arith
