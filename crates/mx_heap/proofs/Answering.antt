-- What a search for a hole answers, in terms of the lowest place.
use Rattle.std.proofs.Common.{ℕ, ◌≡◌, ◌+◌, ◌<◌, ◌≤◌, ◌↔◌, ⊎_elim, true, false, not, List, length, Option, Some, None, Result, Ok, Err, IfOk}
use Rattle.std.proofs.Common.{IsErrOf, IsSome, IsNone, refl, sym, ◌∙◌}
use Rattle.std.specs.Prelude.{◌==◌, nat_le}
use Rattle.std.specs.List.{position}
use Rattle.std.proofs.lemmas.Bool.{cases_Bool, eqb-true, eqb-false, ne_eqb, and_parts, not-true, leb-true}
use Rattle.std.proofs.lemmas.List.Quantifiers.{position-Some}
use Rattle.mx_words.specs.FirstFit.{Area, place, most_blocks}
use Rattle.mx_heap.specs.declared.block.HeapError.{HeapError}
use Rattle.mx_heap.specs.declared.block.HeapError.TheVariants.{NoRoom, BlocksFull}
use Rattle.mx_heap.specs.declared.parts.Part.{Part}
use Rattle.mx_heap.specs.Places.{Fill, blocks_of, part_at, is_hole_for, fitting, wall}
use Rattle.mx_heap.proofs.RoomLaws.{place_found, place_none, part_bounds}

-- the clauses on an answer of `place` or `alloc`: `o` is the lowest place, and n the number of live blocks
pub record Answers (o : Option ℕ) (n : ℕ) (r : Result ℕ HeapError) : Type 0 where
  pub ok : IfOk r (λ a. o ≡ Some a)
  pub no_room : IsErrOf r NoRoom ↔ IsNone o
  pub full : IsErrOf r BlocksFull ↔ (IsSome o × (n ≡ most_blocks))

pub answers_fitting : (o : Option ℕ) (n : ℕ) (r : Result ℕ HeapError) → r ≡ fitting o n → Answers o n r
answers_fitting None n r e = record {
  ok = rw e tt;
  no_room = (λ _. refl, λ _. e);
  full = (
    λ q. let clash : ◌≡◌ {A = Result ℕ HeapError} (Err NoRoom) (Err BlocksFull) = sym e ∙ q in cc,
    λ h. let f : false ≡ true = h.0 in
        cc,
  );
}
answers_fitting (Some a) n r e = ⊎_elim
    (λ (t : (n == most_blocks) ≡ true).
    let is : r ≡ Err BlocksFull = e ∙ (rw t refl) in
    record {
      ok = rw is tt;
      no_room = (
        λ q. let clash : ◌≡◌ {A = Result ℕ HeapError} (Err BlocksFull) (Err NoRoom) = sym is ∙ q in cc,
        λ h. let f : true ≡ false =
            h in cc,
      );
      full = (λ _. (refl, eqb-true n most_blocks t), λ _. is);
    })
    (λ (f : (n == most_blocks) ≡ false).
    let is : r ≡ Ok a = e ∙ (rw f refl) in
    record {
      ok = rw is refl;
      no_room = (λ q. let clash : ◌≡◌ {A = Result ℕ HeapError} (Ok a) (Err NoRoom) = sym is ∙ q in cc, λ h. let g : true ≡ false = h in cc);
      full = (
        λ q. let clash : ◌≡◌ {A = Result ℕ HeapError} (Ok a) (Err BlocksFull) = sym is ∙ q in cc,
        λ h.
            absurd (eqb-false n most_blocks f h.1),
      );
    })
    (cases_Bool (n == most_blocks))

-- the place found, and that fewer blocks live than may
pub fitting-Ok : (o : Option ℕ) (n i : ℕ) → fitting o n ≡ Ok i → (o ≡ Some i) × (n ≡ most_blocks → ⊥)
fitting-Ok None n i e = cc
fitting-Ok (Some j) n i e = ⊎_elim
    (λ (t : (n == most_blocks) ≡ true). let clash : ◌≡◌ {A = Result ℕ HeapError} (Err BlocksFull) (Ok i) = rw t at e in cc)
    (λ (f : (n == most_blocks) ≡ false). let same : ◌≡◌ {A = Result ℕ HeapError} (Ok j) (Ok i) = rw f at e in
    (cc, eqb-false n most_blocks f))
    (cases_Bool (n == most_blocks))

-- a refusal is one whatever place was found
fitting-Err : (n i j : ℕ) (refusal : HeapError) → fitting (Some i) n ≡ Err refusal → fitting (Some j) n ≡ Err refusal
fitting-Err n i j refusal e = ⊎_elim
    (λ (t : (n == most_blocks) ≡ true). let is : ◌≡◌ {A = Result ℕ HeapError} (Err BlocksFull) (Err refusal) = rw t at e in rw t is)
    (λ (f : (n == most_blocks) ≡ false). let is : ◌≡◌ {A = Result ℕ HeapError} (Ok i) (Err refusal) = rw f at e in cc)
    (cases_Bool (n == most_blocks))

module _ (area : Area) (ps : List Part) (fill : Fill area.first (area.first + area.count) true ps) (live : ℕ)
    (counted : live ≡ length (blocks_of ps)) (n : ℕ) (some : 0 < n) where
  -- a hole was found
  pub answers_ok : (i : ℕ) → fitting (position (is_hole_for n) ps) live ≡ Ok i →
      Answers (place area (blocks_of ps) n) (length (blocks_of ps)) (Ok (part_at ps i).first)
  answers_ok i e =
      let is : (position (is_hole_for n) ps ≡ Some i) × (live ≡ most_blocks → ⊥) = fitting-Ok (position (is_hole_for n) ps) live i e in
      let at : place area (blocks_of ps) n ≡ Some (part_at ps i).first = place_found area ps fill i n some is.0 in
      let less : (length (blocks_of ps) == most_blocks) ≡ false = ne_eqb (length (blocks_of ps)) most_blocks (λ m. is.1 (counted ∙ m)) in
      answers_fitting (place area (blocks_of ps) n) (length (blocks_of ps)) (Ok (part_at ps i).first) (rw (at, less) refl)

  -- none was found, or one block more would be too many
  pub answers_err : (refusal : HeapError) → fitting (position (is_hole_for n) ps) live ≡ Err refusal →
      Answers (place area (blocks_of ps) n) (length (blocks_of ps)) (Err refusal)
  answers_err refusal e = by_hole (position (is_hole_for n) ps) refl e
    where
      by_hole : (o : Option ℕ) → position (is_hole_for n) ps ≡ o → fitting o live ≡ Err refusal
          → Answers (place area (blocks_of ps) n) (length (blocks_of ps)) (Err refusal)
      by_hole None found e =
          answers_fitting (place area (blocks_of ps) n) (length (blocks_of ps)) (Err refusal) (sym e
          ∙ sym (rw (place_none area ps fill n some found) refl))
      by_hole (Some i) found e =
          answers_fitting (place area (blocks_of ps) n) (length (blocks_of ps)) (Err refusal)
          (sym (rw (place_found area ps fill i n some found, ← counted) (fitting-Err live i (part_at ps i).first refusal e)))

  -- what is known of the hole that was found
  pub record Found (i : ℕ) : Type 0 where
    pub within : i < length ps
    pub free : (part_at ps i).live ≡ false
    pub long : n ≤ (part_at ps i).count
    pub low : area.first ≤ (part_at ps i).first
    pub high : (part_at ps i).first + (part_at ps i).count ≤ area.first + area.count
    pub less : live ≡ most_blocks → ⊥

  pub found : (i : ℕ) → fitting (position (is_hole_for n) ps) live ≡ Ok i → Found i
  found i e =
      let is : (position (is_hole_for n) ps ≡ Some i) × (live ≡ most_blocks → ⊥) = fitting-Ok (position (is_hole_for n) ps) live i e in
      let at : (i < length ps) × (is_hole_for n (part_at ps i) ≡ true) × ((k : ℕ) → k < i → is_hole_for n (part_at ps k) ≡ false) =
      position-Some (is_hole_for n) ps i wall is.0 in
      let free : (not (part_at ps i).live ≡ true) × (nat_le n (part_at ps i).count ≡ true) =
      and_parts (not (part_at ps i).live) (nat_le n (part_at ps i).count) at.1 in
      let bounds : (area.first ≤ (part_at ps i).first) × (0 < (part_at ps i).count)
      × ((part_at ps i).first + (part_at ps i).count ≤ area.first + area.count) =
      part_bounds area.first (area.first + area.count) true ps i fill at.0 in
      record {
        within = at.0;
        free = not-true (part_at ps i).live free.0;
        long = leb-true n (part_at ps i).count free.1;
        low = bounds.0;
        high = bounds.2;
        less = is.1;
      }
