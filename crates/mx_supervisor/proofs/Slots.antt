-- The heaps in slots, after one slot was written, and a block that may live in a heap.
use Rattle.std.proofs.Common.{◌≡◌, ℕ, ◌<◌, true, ◌&&◌, List, ◌++◌, length, get_or, set, take, sym, subst, ◌∙◌, ap, arith, Option, Some}
use Rattle.std.proofs.Common.{None}
use Rattle.std.proofs.Common.{map as list_map}
use Rattle.std.specs.Prelude.{nat_lt, MatchOption}
use Rattle.std.specs.List.{refill}
use Rattle.std.proofs.lemmas.Bool.{and_from, lt-ltb}
use Rattle.std.proofs.lemmas.List.{append-nil, drop_all, get_or_default, get_or-map, length-map, length-set, map-set, take_all}
use Rattle.mx_words.specs.FirstFit.{Area, has_room, most_blocks}
use Rattle.mx_words.proofs.FirstFitLaws.{IsLeast, NonePasses, place-least}
use Rattle.mx_heap.specs.HeapState.{HeapState, may_live}
use Rattle.mx_supervisor.specs.Heaps.{heap_in, no_heap, room_in}

-- slots that were all written back are those that were written
refilled : (xs ws : List (Option HeapState)) → length ws ≡ length xs → refill (length xs) xs ws ≡ ws
refilled xs ws e =
    ap (λ (ys : List (Option HeapState)). take (length xs) (ws ++ ys)) (drop_all (length ws) xs (omega (arith, e)))
    ∙ ap (take (length xs)) (append-nil ws) ∙ take_all (length xs) ws (omega (arith, e))

-- the heap in a slot that is there
pub slot-heap : (slots ws : List (Option HeapState)) (i : ℕ) (d : Option HeapState) (heaps : List HeapState) →
    list_map heap_in slots ≡ heaps → ws ≡ slots → i < length heaps → heap_in (get_or ws i d) ≡ get_or heaps i no_heap
slot-heap slots ws i d heaps view same there =
    let long : length heaps ≡ length slots = sym (ap length view) ∙ length-map slots heap_in in
    let here : get_or ws i d ≡ get_or slots i None =
    ap (λ (xs : List (Option HeapState)). get_or xs i d) same ∙ get_or_default slots i d None (omega (arith, there, long)) in
    let at : get_or (list_map heap_in slots) i no_heap ≡ heap_in (get_or slots i None) =
    get_or-map heap_in slots i None no_heap (omega (arith, there, long)) in
    ap heap_in here ∙ sym at ∙ ap (λ (hs : List HeapState). get_or hs i no_heap) view

-- the blocks of one heap changed
pub slots-written : (slots ws : List (Option HeapState)) (i : ℕ) (o d : Option HeapState) (heaps : List HeapState) (step : List Area
    → List Area) →
    list_map heap_in slots ≡ heaps → ws ≡ slots → i < length heaps →
    heap_in o ≡ record (heap_in (get_or ws i d)) { blocks = step (heap_in (get_or ws i d)).blocks } →
    list_map heap_in (refill (length slots) slots (set ws i o))
    ≡ set heaps i (record (get_or heaps i no_heap) { blocks = step (get_or heaps i no_heap).blocks })
slots-written slots ws i o d heaps step view same there eq =
    ap (list_map heap_in) (ap (λ (xs : List (Option HeapState)). refill (length slots) slots (set xs i o)) same
    ∙ refilled slots (set slots i o) (length-set slots i o))
    ∙ map-set heap_in slots i o
    ∙ ap (λ (hs : List HeapState). set hs i (heap_in o)) view
    ∙ ap (set heaps i) (eq ∙ ap (λ (h : HeapState). record h { blocks = step h.blocks }) (slot-heap slots ws i d heaps view same there))

-- a word that first fit found is one for a live block, where fewer blocks live than may
pub found-live : (h : HeapState) (n first : ℕ) → 0 < n → room_in h n ≡ Some first → length h.blocks < most_blocks →
    may_live h (record { first = first; count = n }) ≡ true
found-live h n first some found few =
    let least : IsLeast (has_room h.area h.blocks n) h.area.first h.area.count first =
    subst (λ (o : Option ℕ). MatchOption o (NonePasses (has_room h.area h.blocks n) h.area.first h.area.count)
    (IsLeast (has_room h.area h.blocks n) h.area.first h.area.count))
    found (place-least h.area h.blocks n) in
    and_from (nat_lt 0 n && has_room h.area h.blocks n first) (nat_lt (length h.blocks) most_blocks)
    (and_from (nat_lt 0 n) (has_room h.area h.blocks n first) (lt-ltb 0 n some) least.passes) (lt-ltb (length h.blocks) most_blocks few)
