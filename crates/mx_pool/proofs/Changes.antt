-- What a write, a take and a give show afterwards, in terms of what the pool showed before.
use Rattle.std.proofs.Common.{ℕ, ◌≡◌, ◌≢◌, ◌+◌, ◌*◌, ◌-◌, ◌<◌, ◌≤◌, Bool, true, false, not, List, [], None, Some, IsSome, is_none}
use Rattle.std.proofs.Common.{unwrap_or, length, take, drop, set, replicate, get_or, refl, sym, ◌∙◌, ap, arith, length-take, length-drop}
use Rattle.std.proofs.Common.{get_or-set_other, get_or-set_same}
use Rattle.std.specs.List.{count_by}
use Rattle.mx_pool.specs.Frames.{Frames}
use Rattle.mx_pool.specs.Stored.{IsPool, frames_of}
use Rattle.mx_pool.proofs.StoredFrames.{SameOutside, set_inside, word_shown, is_marked, marked_below, marked_shows, unmarked_shows}
use Rattle.mx_pool.proofs.StoredFrames.{shown_elsewhere, zeroed_shows, length-frames_of, free_in-frames_of, count-mark, count-unmark}
use Rattle.mx_pool.proofs.StoredFrames.{frame_fits}
use Rattle.mx_pool.proofs.FreeList.{frame_room, top_within, top_unmarked}

-- two stores, of which the second has words of one frame copied into another, place by place
pub record IsCopied (size : ℕ) (ws us : List ℕ) (source from target to count : ℕ) : Type 0 where
  pub total : length us ≡ length ws
  pub copied : (k : ℕ) → k < count → get_or us (target * size + to + k) 0 ≡ get_or ws (source * size + from + k) 0
  pub below : (k : ℕ) → k < target * size + to → get_or us k 0 ≡ get_or ws k 0
  pub behind : (k : ℕ) → target * size + to + count ≤ k → get_or us k 0 ≡ get_or ws k 0

-- two stores, of which the second has one value at places of one frame
pub record IsFilled (size : ℕ) (ws us : List ℕ) (f from count value : ℕ) : Type 0 where
  pub total : length us ≡ length ws
  pub inside : (k : ℕ) → f * size + from ≤ k → k < f * size + from + count → get_or us k 0 ≡ value
  pub below : (k : ℕ) → k < f * size + from → get_or us k 0 ≡ get_or ws k 0
  pub behind : (k : ℕ) → f * size + from + count ≤ k → get_or us k 0 ≡ get_or ws k 0

module _ (size : ℕ) (ws : List ℕ) (ts : List Bool) (free : List ℕ) (spare : ℕ) (pool : IsPool size ws ts free spare)
    (frames : Frames) (view : frames_of size ws ts ≡ frames) where
  -- another frame after a change of frame f
  pub elsewhere : (f g : ℕ) (us : List ℕ) (ss : List Bool) → SameOutside size f ws us → g ≢ f → get_or ss g false ≡ get_or ts g false →
      get_or (frames_of size us ss) g None ≡ get_or frames g None
  elsewhere f g us ss same ne mark = shown_elsewhere size f g ws us ts ss same ne mark ∙ ap (λ (fs : Frames). get_or fs g None) view

  pub word-now : (f at : ℕ) → IsSome (get_or frames f None) → at < size
      → get_or (unwrap_or (get_or frames f None) []) at 0 ≡ get_or ws (f * size + at) 0
  word-now f at h lt = word_shown size ws ts frames view f at h lt

  pub total : (us : List ℕ) (ss : List Bool) → length ss ≡ length ts → length (frames_of size us ss) ≡ length frames
  total us ss len = length-frames_of size us ss ∙ len ∙ sym (length-frames_of size ws ts) ∙ ap (λ (fs : Frames). length fs) view

  pub free_now : count_by is_none frames ≡ spare
  free_now = ap (λ (fs : Frames). count_by is_none fs) (sym view) ∙ free_in-frames_of size ws ts ∙ sym pool.counted

  -- a write at a place of a taken frame
  words_are : (f : ℕ) → IsSome (get_or frames f None) → unwrap_or (get_or frames f None) [] ≡ take size (drop (f * size) ws)
  words_are f h = rw (← view, marked_shows size ws ts f (is_marked size ws ts frames view f h)) refl

  pub written_frame : (f at v : ℕ) → IsSome (get_or frames f None) →
      get_or (frames_of size (set ws (f * size + at) v) ts) f None ≡ Some (set (unwrap_or (get_or frames f None) []) at v)
  written_frame f at v h =
      marked_shows size (set ws (f * size + at) v) ts f (is_marked size ws ts frames view f h)
      ∙ ap (λ (xs : List ℕ). Some xs) (set_inside size f at v ws)
      ∙ ap (λ (xs : List ℕ). Some (set xs at v)) (sym (words_are f h))

  pub written_here : (f at v : ℕ) → IsSome (get_or frames f None) → at < size →
      get_or (unwrap_or (get_or (frames_of size (set ws (f * size + at) v) ts) f None) []) at 0 ≡ v
  written_here f at v h lt =
      let room : f * size + size ≤ length ws = frame_room size ws ts free spare pool frames view f h in
      let long : at < length (unwrap_or (get_or frames f None) []) = rw (words_are f h, length-take, length-drop) (omega arith) in
      rw (written_frame f at v h) (get_or-set_same (unwrap_or (get_or frames f None) []) at v 0 long)

  pub written_others : (f at v k : ℕ) → IsSome (get_or frames f None) → k ≢ at →
      get_or (unwrap_or (get_or (frames_of size (set ws (f * size + at) v) ts) f None) []) k 0
      ≡ get_or (unwrap_or (get_or frames f None) []) k 0
  written_others f at v k h ne = rw (written_frame f at v h) (get_or-set_other (unwrap_or (get_or frames f None) []) at k v 0 ne)

  pub written_free : (us : List ℕ) → count_by is_none (frames_of size us ts) ≡ count_by is_none frames
  written_free us = free_in-frames_of size us ts ∙ sym pool.counted ∙ sym free_now

  -- a taken frame, given back
  pub given_here : (f : ℕ) → IsSome (get_or frames f None) → get_or (frames_of size ws (set ts f false)) f None ≡ None
  given_here f h =
      let mark : get_or ts f false ≡ true = is_marked size ws ts frames view f h in
      unmarked_shows size ws (set ts f false) f (get_or-set_same ts f false false (marked_below ts f mark))

  pub given_free : (f : ℕ) → IsSome (get_or frames f None) → count_by is_none (frames_of size ws (set ts f false)) ≡ count_by is_none frames
      + 1
  given_free f h =
      let mark : get_or ts f false ≡ true = is_marked size ws ts frames view f h in
      let more : count_by not (set ts f false) ≡ count_by not ts + 1 = count-unmark ts f (marked_below ts f mark) mark in
      let new : count_by is_none (frames_of size ws (set ts f false)) ≡ count_by not (set ts f false) =
      free_in-frames_of size ws (set ts f false) in
      omega (arith, more, new, pool.counted, free_now)

  -- the frame on top of the free ones, marked and zeroed
  pub was_free : (f : ℕ) → f ≡ get_or free (spare - 1) 0 → 0 < spare → get_or frames f None ≡ None
  was_free f e some = rw (← view) (unmarked_shows size ws ts f (top_unmarked size ws ts free spare pool f e some))

  pub taken_here : (f : ℕ) (us : List ℕ) → f ≡ get_or free (spare - 1) 0 → 0 < spare → length us ≡ length ws →
      ((i : ℕ) → f * size ≤ i → i < f * size + size → get_or us i 0 ≡ 0) →
      get_or (frames_of size us (set ts f true)) f None ≡ Some (replicate size 0)
  taken_here f us e some len zeros =
      let within : f < length ts = top_within size ws ts free spare pool f e some in
      let fits : f * size + size ≤ length us = frame_fits size (length ts) (length us) f (len ∙ pool.room) within in
      marked_shows size us (set ts f true) f (get_or-set_same ts f true false within)
      ∙ ap (λ (xs : List ℕ). Some xs) (zeroed_shows size f us fits zeros)

  pub taken_free : (f : ℕ) (us : List ℕ) → f ≡ get_or free (spare - 1) 0 → 0 < spare →
      count_by is_none (frames_of size us (set ts f true)) + 1 ≡ count_by is_none frames
  taken_free f us e some =
      let less : count_by not (set ts f true) + 1 ≡ count_by not ts =
      count-mark ts f (top_within size ws ts free spare pool f e some) (top_unmarked size ws ts free spare pool f e some) in
      let new : count_by is_none (frames_of size us (set ts f true)) ≡ count_by not (set ts f true) =
      free_in-frames_of size us (set ts f true) in
      omega (arith, less, new, pool.counted, free_now)

  pub taken_within : (f : ℕ) → f ≡ get_or free (spare - 1) 0 → 0 < spare → f < length frames
  taken_within f e some = rw (← view, length-frames_of) (top_within size ws ts free spare pool f e some)

  -- words are copied into a taken frame: what the frames show afterwards
  module _ (us : List ℕ) (source from target to count : ℕ) (of_source : IsSome (get_or frames source None))
      (of_target : IsSome (get_or frames target None))
      (from_room : from + count ≤ size) (to_room : to + count ≤ size) (c : IsCopied size ws us source from target to count) where
    pub copied_taken : IsSome (get_or (frames_of size us ts) target None)
    copied_taken = rw (marked_shows size us ts target (is_marked size ws ts frames view target of_target)) refl

    pub copied_outside : SameOutside size target ws us
    copied_outside = record { total = c.total; below = λ i h. c.below i (omega arith); behind = λ i h. c.behind i (omega arith) }

    pub copied_here : (k : ℕ) → k < count →
        get_or (unwrap_or (get_or (frames_of size us ts) target None) []) (to + k) 0
        ≡ get_or (unwrap_or (get_or frames source None) []) (from + k) 0
    copied_here k h =
        let there : target * size + (to + k) ≡ target * size + to + k = omega arith in
        let here : source * size + from + k ≡ source * size + (from + k) = omega arith in
        word_shown size us ts (frames_of size us ts) refl target (to + k) copied_taken (omega arith)
        ∙ ap (λ n. get_or us n 0) there ∙ c.copied k h ∙ ap (λ n. get_or ws n 0) here
        ∙ sym (word_shown size ws ts frames view source (from + k) of_source (omega arith))

    stays : (k : ℕ) → k < size → get_or us (target * size + k) 0 ≡ get_or ws (target * size + k) 0 →
        get_or (unwrap_or (get_or (frames_of size us ts) target None) []) k 0 ≡ get_or (unwrap_or (get_or frames target None) []) k 0
    stays k h same =
        word_shown size us ts (frames_of size us ts) refl target k copied_taken h ∙ same
        ∙ sym (word_shown size ws ts frames view target k of_target h)

    pub copied_below : (k : ℕ) → k < to → get_or (unwrap_or (get_or (frames_of size us ts) target None) []) k 0
        ≡ get_or (unwrap_or (get_or frames target None) []) k 0
    copied_below k h = stays k (omega arith) (c.below (target * size + k) (omega arith))

    pub copied_behind : (k : ℕ) → to + count ≤ k → k < size →
        get_or (unwrap_or (get_or (frames_of size us ts) target None) []) k 0 ≡ get_or (unwrap_or (get_or frames target None) []) k 0
    copied_behind k h lt = stays k lt (c.behind (target * size + k) (omega arith))

  -- one value is written to places of a taken frame: what the frames show afterwards
  module _ (us : List ℕ) (f from count value : ℕ) (taken : IsSome (get_or frames f None)) (room : from + count ≤ size)
      (c : IsFilled size ws us f from count value) where
    pub filled_taken : IsSome (get_or (frames_of size us ts) f None)
    filled_taken = rw (marked_shows size us ts f (is_marked size ws ts frames view f taken)) refl

    pub filled_outside : SameOutside size f ws us
    filled_outside = record { total = c.total; below = λ i h. c.below i (omega arith); behind = λ i h. c.behind i (omega arith) }

    pub filled_here : (k : ℕ) → from ≤ k → k < from + count → get_or (unwrap_or (get_or (frames_of size us ts) f None) []) k 0 ≡ value
    filled_here k least most =
        word_shown size us ts (frames_of size us ts) refl f k filled_taken (omega arith)
        ∙ c.inside (f * size + k) (omega arith) (omega arith)

    kept : (k : ℕ) → k < size → get_or us (f * size + k) 0 ≡ get_or ws (f * size + k) 0 →
        get_or (unwrap_or (get_or (frames_of size us ts) f None) []) k 0 ≡ get_or (unwrap_or (get_or frames f None) []) k 0
    kept k h same = word_shown size us ts (frames_of size us ts) refl f k filled_taken h ∙ same
        ∙ sym (word_shown size ws ts frames view f k taken h)

    pub filled_below : (k : ℕ) → k < from → get_or (unwrap_or (get_or (frames_of size us ts) f None) []) k 0
        ≡ get_or (unwrap_or (get_or frames f None) []) k 0
    filled_below k h = kept k (omega arith) (c.below (f * size + k) (omega arith))

    pub filled_behind : (k : ℕ) → from + count ≤ k → k < size →
        get_or (unwrap_or (get_or (frames_of size us ts) f None) []) k 0 ≡ get_or (unwrap_or (get_or frames f None) []) k 0
    filled_behind k h lt = kept k lt (c.behind (f * size + k) (omega arith))
