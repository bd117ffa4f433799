-- What the writes of a word, and a frame more or less, do to the words of the lists.
use Rattle.std.proofs.Common.{◌≡◌, ◌≢◌, ℕ, ◌+◌, ◌-◌, ◌*◌, ◌/◌, ◌%◌, ◌<◌, ◌≤◌, true, false, List, [], ◌∷◌, ◌++◌, Option, Some, None, is_some}
use Rattle.std.proofs.Common.{unwrap_or, length, get_or, set, take, replicate, sum_by, refl, sym, ◌∙◌, ap, subst, arith, inl, inr, ◌⊎◌}
use Rattle.std.proofs.Common.{length-take, get_or-set_same, get_or-set_other, get_or-take}
use Rattle.std.proofs.lemmas.Bool.{cases_lt, cases_eq}
use Rattle.std.proofs.lemmas.List.{get_or_append_left, get_or_push, get_or-replicate, length_push}
use Rattle.std.proofs.lemmas.List.Sums.{sum_by-set}
use Rattle.mx_pool.specs.Frames.{Frames, frame_at, IsTaken, word_at, free_in}
use Rattle.mx_segments.specs.Lists.{list_at}
use Rattle.mx_segments.specs.Store.{frames_in, frame_in, word_in, IsStore, KeepsOthers}

pub place_within : (n i : ℕ) → i < 64 * n → i / 64 < n
place_within n i lt = omega arith

taken_differs : (fs : Frames) (f g : ℕ) → IsTaken fs g → frame_at fs f ≡ None → g ≢ f
taken_differs fs f g taken free e =
    let both : true ≡ false = sym taken ∙ ap (λ h. is_some (frame_at fs h)) e ∙ ap (λ (o : Option (List ℕ)). is_some o) free in
    cc

-- where only frame f changes
module _ (fs fs' : Frames) (f : ℕ) (elsewhere : (g : ℕ) → g ≢ f → frame_at fs' g ≡ frame_at fs g) where
  pub word_still : (g k : ℕ) → g ≢ f → word_at fs' g k ≡ word_at fs g k
  word_still g k ne = ap (λ (o : Option (List ℕ)). get_or (unwrap_or o []) k 0) (elsewhere g ne)

  pub taken_still : (g : ℕ) → IsTaken fs' f → IsTaken fs g → IsTaken fs' g
  taken_still g here was = elim (cases_eq g f) [
    | inl e ↦ (ap (λ h. is_some (frame_at fs' h)) e ∙ here)
    | inr ne ↦ (ap (λ (o : Option (List ℕ)). is_some o) (elsewhere g ne) ∙ was)
  ]

-- a word is written
module _ (fs fs' : Frames) (ls : List (List ℕ)) (st : IsStore fs ls) (row i : ℕ) (within : i < 64 * frames_in ls row)
    (elsewhere : (g : ℕ) → g ≢ frame_in ls row (i / 64) → frame_at fs' g ≡ frame_at fs g) where
  pub put_store : IsTaken fs' (frame_in ls row (i / 64)) → free_in fs' ≡ free_in fs → length fs' ≡ length fs → IsStore fs' ls
  put_store here free total = record {
    taken = λ r k lt. taken_still fs fs' (frame_in ls row (i / 64)) elsewhere (frame_in ls r k) here (st.taken r k lt);
    apart = st.apart;
    counted = (let c = st.counted in omega (arith, free, total));
  }

  pub put_others : length fs' ≡ length fs → KeepsOthers fs ls fs' ls row
  put_others total = record {
    rows = refl;
    total = total;
    chains = λ other ne. refl;
    words = λ other j ne lt. word_still fs fs' (frame_in ls row (i / 64)) elsewhere (frame_in ls other (j / 64)) (j % 64)
        (λ e. ne (st.apart other (j / 64) row (i / 64) (place_within (frames_in ls other) j lt) (place_within (frames_in ls row) i within)
        e).0);
  }

-- the list at one row is replaced
module _ (ls : List (List ℕ)) (row : ℕ) (l : List ℕ) (within : row < length ls) where
  pub list_here : list_at (set ls row l) row ≡ l
  list_here = get_or-set_same ls row l [] within

  pub list_other : (other : ℕ) → other ≢ row → list_at (set ls row l) other ≡ list_at ls other
  list_other other ne = get_or-set_other ls row other l [] ne

-- a frame is appended
module _ (fs fs' : Frames) (ls ls' : List (List ℕ)) (st : IsStore fs ls) (row f : ℕ) (within : row < length ls)
    (grown : ls' ≡ set ls row (list_at ls row ++ f ∷ []))
    (was_free : frame_at fs f ≡ None) (here : frame_at fs' f ≡ Some (replicate 64 0))
    (elsewhere : (g : ℕ) → g ≢ f → frame_at fs' g ≡ frame_at fs g)
    (fewer : free_in fs' + 1 ≡ free_in fs) (total : length fs' ≡ length fs) where
  longer : list_at ls' row ≡ list_at ls row ++ f ∷ []
  longer = ap (λ (x : List (List ℕ)). list_at x row) grown ∙ list_here ls row (list_at ls row ++ f ∷ []) within

  same_list : (other : ℕ) → other ≢ row → list_at ls' other ≡ list_at ls other
  same_list other ne = ap (λ (x : List (List ℕ)). list_at x other) grown ∙ list_other ls row (list_at ls row ++ f ∷ []) within other ne

  pub grow_frames : frames_in ls' row ≡ frames_in ls row + 1
  grow_frames = ap (λ (l : List ℕ). length l) longer ∙ length_push (list_at ls row) f

  -- a frame of the longer lists is an old one, or the new one at the end of the row
  record IsOld (r i : ℕ) : Type 0 where
    below : i < frames_in ls r
    frame : frame_in ls' r i ≡ frame_in ls r i

  record IsNew (r i : ℕ) : Type 0 where
    row_is : r ≡ row
    place : i ≡ frames_in ls row
    frame : frame_in ls' r i ≡ f

  in_row : (i : ℕ) → i < frames_in ls' row → (IsOld row i) ⊎ (IsNew row i)
  in_row i lt = elim (cases_lt i (frames_in ls row)) [
    | inl h ↦ inl (record {
      below = h;
      frame = ap (λ (l : List ℕ). get_or l i 0) longer
          ∙ get_or_append_left (list_at ls row) (f ∷ []) 0 i h;
    })
    | inr h ↦ (let last : i ≡ frames_in ls row = omega (arith, grow_frames) in
        inr (record {
          row_is = refl;
          place = last;
          frame = ap (λ (l : List ℕ). get_or l i 0) longer
              ∙ get_or_push (list_at ls row) f 0 i (sym last);
        }))
  ]

  split : (r i : ℕ) → i < frames_in ls' r → (IsOld r i) ⊎ (IsNew r i)
  split r i lt = elim (cases_eq r row) [
    | inl e ↦ (let Q : ℕ → Type 0 = λ q. i < frames_in ls' q in
        let lt' : i < frames_in ls' row = subst Q e lt in
        let R : ℕ → Type 0 = λ q. (IsOld q i) ⊎ (IsNew q i) in
        subst R (sym e) (in_row i lt'))
    | inr ne ↦ (let same = same_list r ne in
        let frames : frames_in ls' r ≡ frames_in ls r = ap (λ (l : List ℕ). length l) same in
        inl (record { below = omega (arith, frames); frame = ap (λ (l : List ℕ). get_or l i 0) same }))
  ]

  old_differs : (r i : ℕ) → i < frames_in ls r → frame_in ls r i ≢ f
  old_differs r i lt = taken_differs fs f (frame_in ls r i) (st.taken r i lt) was_free

  new_taken : IsTaken fs' f
  new_taken = ap (λ (o : Option (List ℕ)). is_some o) here

  grow_taken : (r i : ℕ) → i < frames_in ls' r → IsTaken fs' (frame_in ls' r i)
  grow_taken r i lt = elim (split r i lt) [
    | inl h ↦ (ap (λ g. is_some (frame_at fs' g)) h.frame ∙ ap (λ (o : Option (List ℕ)). is_some o)
        (elsewhere (frame_in ls r i) (old_differs r i h.below)) ∙ st.taken r i h.below)
    | inr h ↦ (ap (λ g. is_some (frame_at fs' g)) h.frame ∙ new_taken)
  ]

  grow_apart : (r i q j : ℕ) → i < frames_in ls' r → j < frames_in ls' q → frame_in ls' r i ≡ frame_in ls' q j → (r ≡ q) × (i ≡ j)
  grow_apart r i q j lt lt' e = elim (split r i lt) [
    | inl h ↦ elim (split q j lt') [
      | inl k ↦ st.apart r i q j h.below k.below (sym h.frame ∙ e ∙ k.frame)
      | inr k ↦ absurd (old_differs r i h.below (sym h.frame ∙ e ∙ k.frame))
    ]
    | inr h ↦ elim (split q j lt') [
      | inl k ↦ absurd (old_differs q j k.below (sym k.frame ∙ sym e ∙ h.frame))
      | inr k ↦ (h.row_is ∙ sym k.row_is, h.place ∙ sym k.place)
    ]
  ]

  grow_sum : sum_by length ls' ≡ sum_by length ls + 1
  grow_sum =
      let after = sum_by-set length ls row (list_at ls row ++ f ∷ []) [] within in
      let len = length_push (list_at ls row) f in
      let whole : sum_by length ls' ≡ sum_by length (set ls row (list_at ls row ++ f ∷ [])) =
      ap (λ (x : List (List ℕ)). sum_by length x) grown in
      omega (arith, after, len, whole)

  pub grow_store : IsStore fs' ls'
  grow_store = record { taken = grow_taken; apart = grow_apart; counted = (let c = st.counted in omega (arith, grow_sum, fewer, total)) }

  pub grow_words : (j : ℕ) → j < 64 * frames_in ls row → word_in fs' ls' row j ≡ word_in fs ls row j
  grow_words j lt =
      let below = place_within (frames_in ls row) j lt in
      let frame : frame_in ls' row (j / 64) ≡ frame_in ls row (j / 64) = ap (λ (l : List ℕ). get_or l (j / 64) 0) longer
      ∙ get_or_append_left (list_at ls row) (f ∷ []) 0 (j / 64) below in
      ap (λ g. word_at fs' g (j % 64)) frame ∙ word_still fs fs' f elsewhere (frame_in ls row (j / 64)) (j % 64)
      (old_differs row (j / 64) below)

  pub grow_zeros : (j : ℕ) → 64 * frames_in ls row ≤ j → j < 64 * frames_in ls' row → word_in fs' ls' row j ≡ 0
  grow_zeros j le lt =
      let last : j / 64 ≡ frames_in ls row = omega (arith, grow_frames) in
      let frame : frame_in ls' row (j / 64) ≡ f = ap (λ (l : List ℕ). get_or l (j / 64) 0) longer
      ∙ get_or_push (list_at ls row) f 0 (j / 64) (sym last) in
      let small : j % 64 < 64 = omega arith in
      ap (λ g. word_at fs' g (j % 64)) frame ∙ ap (λ (o : Option (List ℕ)). get_or (unwrap_or o []) (j % 64) 0) here
      ∙ get_or-replicate 64 (j % 64) 0 0 small

-- the last frame is taken away
module _ (fs fs' : Frames) (ls ls' : List (List ℕ)) (st : IsStore fs ls) (row f : ℕ) (within : row < length ls)
    (some : 0 < frames_in ls row)
    (cut : ls' ≡ set ls row (take (frames_in ls row - 1) (list_at ls row)))
    (last : f ≡ frame_in ls row (frames_in ls row - 1))
    (elsewhere : (g : ℕ) → g ≢ f → frame_at fs' g ≡ frame_at fs g)
    (more : free_in fs' ≡ free_in fs + 1) (total : length fs' ≡ length fs) where
  shorter : list_at ls' row ≡ take (frames_in ls row - 1) (list_at ls row)
  shorter = ap (λ (x : List (List ℕ)). list_at x row) cut ∙ list_here ls row (take (frames_in ls row - 1) (list_at ls row)) within

  kept_list : (other : ℕ) → other ≢ row → list_at ls' other ≡ list_at ls other
  kept_list other ne = ap (λ (x : List (List ℕ)). list_at x other) cut
      ∙ list_other ls row (take (frames_in ls row - 1) (list_at ls row)) within other ne

  pub shrink_frames : frames_in ls' row + 1 ≡ frames_in ls row
  shrink_frames =
      let len : frames_in ls' row ≡ length (take (frames_in ls row - 1) (list_at ls row)) = ap (λ (l : List ℕ). length l) shorter in
      omega (arith, len, length-take (frames_in ls row - 1) (list_at ls row))

  -- a frame of the shorter lists is an old one, and not the one taken away
  record IsKept (r i : ℕ) : Type 0 where
    below : i < frames_in ls r
    frame : frame_in ls' r i ≡ frame_in ls r i
    differs : frame_in ls r i ≢ f

  last_below : frames_in ls row - 1 < frames_in ls row
  last_below = omega arith

  kept_in_row : (i : ℕ) → i < frames_in ls' row → IsKept row i
  kept_in_row i lt = record {
    below = omega (arith, shrink_frames);
    frame = ap (λ (l : List ℕ). get_or l i 0) shorter ∙ get_or-take (frames_in ls row - 1) (list_at ls row) i 0
        (omega (arith, shrink_frames));
    differs = λ e. (let place : i ≡ frames_in ls row - 1 = (st.apart row i row (frames_in ls row - 1) (omega (arith, shrink_frames))
        last_below (e ∙ last)).1 in absurd (omega (arith, shrink_frames, place)));
  }

  kept : (r i : ℕ) → i < frames_in ls' r → IsKept r i
  kept r i lt = elim (cases_eq r row) [
    | inl e ↦ (let Q : ℕ → Type 0 = λ q. i < frames_in ls' q in
        let lt' : i < frames_in ls' row = subst Q e lt in
        let R : ℕ → Type 0 = λ q. IsKept q i in
        subst R (sym e) (kept_in_row i lt'))
    | inr ne ↦ (let same = kept_list r ne in
        let frames : frames_in ls' r ≡ frames_in ls r = ap (λ (l : List ℕ). length l) same in
        let below : i < frames_in ls r = omega (arith, frames) in
        record {
          below = below;
          frame = ap (λ (l : List ℕ). get_or l i 0) same;
          differs = λ e. ne (st.apart r i row (frames_in ls row - 1) below last_below (e ∙ last)).0;
        })
  ]

  shrink_taken : (r i : ℕ) → i < frames_in ls' r → IsTaken fs' (frame_in ls' r i)
  shrink_taken r i lt =
      let h = kept r i lt in
      ap (λ g. is_some (frame_at fs' g)) h.frame ∙ ap (λ (o : Option (List ℕ)). is_some o) (elsewhere (frame_in ls r i) h.differs)
      ∙ st.taken r i h.below

  shrink_apart : (r i q j : ℕ) → i < frames_in ls' r → j < frames_in ls' q → frame_in ls' r i ≡ frame_in ls' q j → (r ≡ q) × (i ≡ j)
  shrink_apart r i q j lt lt' e =
      let h = kept r i lt in let k = kept q j lt' in
      st.apart r i q j h.below k.below (sym h.frame ∙ e ∙ k.frame)

  shrink_sum : sum_by length ls' + 1 ≡ sum_by length ls
  shrink_sum =
      let after = sum_by-set length ls row (take (frames_in ls row - 1) (list_at ls row)) [] within in
      let len = length-take (frames_in ls row - 1) (list_at ls row) in
      let whole : sum_by length ls' ≡ sum_by length (set ls row (take (frames_in ls row - 1) (list_at ls row))) =
      ap (λ (x : List (List ℕ)). sum_by length x) cut in
      omega (arith, after, len, whole)

  pub shrink_store : IsStore fs' ls'
  shrink_store = record {
    taken = shrink_taken;
    apart = shrink_apart;
    counted =
        (let c = st.counted in omega (arith, shrink_sum, more, total));
  }

  pub shrink_words : (j : ℕ) → j < 64 * frames_in ls' row → word_in fs' ls' row j ≡ word_in fs ls row j
  shrink_words j lt =
      let h = kept row (j / 64) (place_within (frames_in ls' row) j lt) in
      ap (λ g. word_at fs' g (j % 64)) h.frame ∙ word_still fs fs' f elsewhere (frame_in ls row (j / 64)) (j % 64) h.differs
