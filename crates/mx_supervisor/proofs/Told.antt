-- What is true of each module's heap.
use Rattle.std.proofs.Common.{◌≡◌, ℕ, ◌+◌, ◌<◌, ◌≤◌, ◌⊎◌, inl, inr, cond, List, [], ◌∷◌, length, get_or, eq-eqb, refl, sym, ap, subst, ◌∙◌}
use Rattle.std.proofs.Common.{arith, Option, None}
use Rattle.std.proofs.Common.{map as list_map}
use Rattle.std.proofs.lemmas.Bool.{cases_eq, ne_eqb}
use Rattle.std.proofs.lemmas.List.{get_or-map, get_or_past, length-map}
use Rattle.mx_words.specs.FirstFit.{Area, AreApart}
use Rattle.mx_words.proofs.AreaLaws.{apart_ordered}
use Rattle.mx_heap.specs.HeapState.{HeapState, IsHeap}
use Rattle.mx_supervisor.specs.Heaps.{heap_in, no_area, no_heap, told_heap, told_area}
use Rattle.mx_supervisor.specs.Told.{IsTold}

-- an area of no words has no block
nowhere : (first count : ℕ) (bs : List Area) → count ≡ 0 → AreApart first (first + count) bs → AreApart 0 0 bs
nowhere first count [] e h = omega arith
nowhere first count (b ∷ bs) e h = let rest = apart_ordered (b.first + b.count) (first + count) bs h.2 in
    absurd (omega (arith, e, h.0, h.1, rest))

pub told-none : IsTold no_heap
told-none = record { heap = record { apart = omega arith; few = omega arith }; no_words = λ e. refl }

pub told-heap : (h : HeapState) → IsHeap h → IsTold (told_heap h)
told-heap h is = by (cases_eq h.area.count 0)
  where
    by : (h.area.count ≡ 0) ⊎ (h.area.count ≡ 0 → ⊥) → IsTold (told_heap h)
    by (inl e) =
        let same : told_area h.area ≡ no_area = ap (λ b. cond b no_area h.area) (eq-eqb h.area.count 0 e) in
        subst (λ (a : Area). IsTold (record h { area = a })) (sym same)
        (record { heap = record { apart = nowhere h.area.first h.area.count h.blocks e is.apart; few = is.few }; no_words = λ z. refl })
    by (inr ne) =
        let same : told_area h.area ≡ h.area = ap (λ b. cond b no_area h.area) (ne_eqb h.area.count 0 ne) in
        subst (λ (a : Area). IsTold (record h { area = a })) (sym same)
        (record { heap = record { apart = is.apart; few = is.few }; no_words = λ z. absurd (ne z) })

-- the first n heaps are told so
pub record AreToldFirst (n : ℕ) (heaps : List HeapState) : Type 0 where
  pub at : (j : ℕ) → j < n → IsTold (get_or heaps j no_heap)

pub first-more : (heaps : List HeapState) (i : ℕ) (h : HeapState) → AreToldFirst i heaps → h ≡ get_or heaps i no_heap → IsTold h
    → AreToldFirst (i + 1) heaps
first-more heaps i h a same here = record { at = λ j lt. by j lt (cases_eq j i) }
  where
    by : (j : ℕ) → j < i + 1 → (j ≡ i) ⊎ (j ≡ i → ⊥) → IsTold (get_or heaps j no_heap)
    by j lt (inl e) = subst IsTold (same ∙ ap (λ k. get_or heaps k no_heap) (sym e)) here
    by j lt (inr ne) = a.at j (omega (arith, lt, ne))

-- one more heap is told so: the one in the next slot
pub first-there : (slots ws : List (Option HeapState)) (heaps : List HeapState) (i : ℕ) (slot : Option HeapState)
    → list_map heap_in slots ≡ heaps → ws ≡ slots →
    AreToldFirst i heaps → i < length ws → slot ≡ get_or ws i None → IsTold (heap_in slot) → AreToldFirst (i + 1) heaps
first-there slots ws heaps i slot view same a lt is here =
    let there : i < length slots = omega (arith, lt, ap length same) in
    first-more heaps i (heap_in slot) a
    (ap heap_in (is ∙ ap (λ (xs : List (Option HeapState)). get_or xs i None) same) ∙ sym (get_or-map heap_in slots i None no_heap there)
    ∙ ap (λ (hs : List HeapState). get_or hs i no_heap) view) here

-- where no slot is left, there is no heap
pub first-past : (slots ws : List (Option HeapState)) (heaps : List HeapState) (i : ℕ) → list_map heap_in slots ≡ heaps → ws ≡ slots
    → AreToldFirst i heaps →
    length ws ≤ i → AreToldFirst (i + 1) heaps
first-past slots ws heaps i view same a le =
    let long : length heaps ≤ i = omega (arith, le, ap length same, ap length view, length-map slots heap_in) in
    first-more heaps i no_heap a (sym (get_or_past heaps i no_heap long)) told-none
