-- What making a pool, taking, giving and writing leave of what stays true of it.
use Rattle.std.proofs.Common.{ℕ, zero, suc, ◌≡◌, ◌≢◌, ◌+◌, ◌*◌, ◌-◌, ◌^◌, ◌<◌, ◌≤◌, ⊎_elim, Bool, true, false, not, cond, List, ◌∷◌, length}
use Rattle.std.proofs.Common.{set, replicate, get_or, None, IsSome, refl, sym, ◌∙◌, arith, length-set, get_or-set_other, get_or-set_same}
use Rattle.std.proofs.lemmas.List.{get_or-replicate, length-replicate}
use Rattle.std.proofs.lemmas.List.Sums.{sum_by-cons, count_by-le-length}
use Rattle.std.proofs.lemmas.Bool.{cases_lt, cases_eq}
use Rattle.std.specs.List.{count_by}
use Rattle.mx_pool.specs.Frames.{Frames}
use Rattle.mx_pool.specs.Stored.{IsPool, frames_of}
use Rattle.mx_pool.proofs.StoredFrames.{count-mark, count-unmark, marked_below, is_marked, frame_fits}

count-replicate : (n : ℕ) → count_by not (replicate n false) ≡ n
count-replicate zero = refl
count-replicate (suc n) =
    let G : Bool → ℕ = λ b. cond (not b) 1 0 in
    let ih : count_by not (replicate n false) ≡ n = count-replicate n in
    let step : count_by not (false ∷ replicate n false) ≡ 1 + count_by not (replicate n false) = sum_by-cons G false (replicate n false) in
    omega (arith, step, ih)

-- a pool whose frames are all free
pub pool_made : (size n : ℕ) (free : List ℕ) → n < 2 ^ 30 → length free ≡ n → ((i : ℕ) → i < n → get_or free i 0 ≡ n - 1 - i) →
    IsPool size (replicate (n * size) 0) (replicate n false) free n
pool_made size n free small len each = record {
  room = rw (length-replicate {A = ℕ} (n * size) 0, length-replicate n false) refl;
  stack = rw (len, length-replicate n false) refl;
  small = rw (length-replicate n false) small;
  counted = sym (count-replicate n);
  listed = λ i h. rw (length-replicate n false, each i h) (omega arith);
  unmarked = λ i h. let lt : get_or free i 0 < n = rw (each i h) (omega arith) in
      get_or-replicate {A = Bool} n (get_or free i 0) false false lt;
  apart = λ i j h k e. omega (arith, each i h, each j k, e);
}

module _ (size : ℕ) (ws : List ℕ) (ts : List Bool) (free : List ℕ) (spare : ℕ) (pool : IsPool size ws ts free spare) where
  -- the list is never longer than its room
  pub spare_most : spare ≤ length free
  spare_most = omega (arith, count_by-le-length not ts, pool.counted, pool.stack)

  -- the frame on top of the list is free
  pub top_within : (f : ℕ) → f ≡ get_or free (spare - 1) 0 → 0 < spare → f < length ts
  top_within f e some = rw e (pool.listed (spare - 1) (omega arith))

  pub top_unmarked : (f : ℕ) → f ≡ get_or free (spare - 1) 0 → 0 < spare → get_or ts f false ≡ false
  top_unmarked f e some = rw e (pool.unmarked (spare - 1) (omega arith))

  -- the frame on top is marked
  pub pool_taken : (f : ℕ) (us : List ℕ) → f ≡ get_or free (spare - 1) 0 → 0 < spare → length us ≡ length ws →
      IsPool size us (set ts f true) free (spare - 1)
  pool_taken f us e some len =
      let count : count_by not (set ts f true) + 1 ≡ count_by not ts = count-mark ts f (top_within f e some) (top_unmarked f e some) in
      record {
        room = rw (length-set, len) pool.room;
        stack = rw length-set pool.stack;
        small = rw length-set pool.small;
        counted = omega (arith, count, pool.counted);
        listed = λ i h. rw length-set (pool.listed i (omega arith));
        unmarked = λ i h.
            let below : i < spare = omega arith in
            let other : get_or free i 0 ≢ f = λ q. let same : i ≡ spare - 1 = pool.apart i (spare - 1) below (omega arith) (q ∙ e) in
            absurd (omega arith) in
            get_or-set_other ts f (get_or free i 0) true false other ∙ pool.unmarked i below;
        apart = λ i j h k q. pool.apart i j (omega arith) (omega arith) q;
      }

  -- a marked frame leaves room on the list
  pub room_left : (f : ℕ) → get_or ts f false ≡ true → spare < length free
  room_left f h =
      let within : f < length ts = marked_below ts f h in
      let more : count_by not (set ts f false) ≡ count_by not ts + 1 = count-unmark ts f within h in
      let most : count_by not (set ts f false) ≤ length (set ts f false) = count_by-le-length not (set ts f false) in
      let len : length (set ts f false) ≡ length ts = length-set ts f false in
      omega (arith, pool.counted, pool.stack)

  -- a marked frame is put on top
  pub pool_given : (f : ℕ) → get_or ts f false ≡ true → IsPool size ws (set ts f false) (set free spare f) (spare + 1)
  pool_given f h =
      let within : f < length ts = marked_below ts f h in
      let left : spare < length free = room_left f h in
      let more : count_by not (set ts f false) ≡ count_by not ts + 1 = count-unmark ts f within h in
      let low : (i : ℕ) → i < spare → get_or (set free spare f) i 0 ≡ get_or free i 0 = λ i b.
      get_or-set_other free spare i f 0 (λ e. omega arith) in
      let high : get_or (set free spare f) spare 0 ≡ f = get_or-set_same free spare f 0 left in
      let new : (i : ℕ) → i < spare → get_or free i 0 ≢ f = λ i b e. let mark : get_or ts f false ≡ false = rw e at (pool.unmarked i b) in
      cc in
      let unmarked : (i : ℕ) → get_or ts i false ≡ false → get_or (set ts f false) i false ≡ false = λ i e.
      ⊎_elim (λ same. rw same (get_or-set_same ts f false false within)) (λ ne. get_or-set_other ts f i false false ne ∙ e) (cases_eq i f)
      in
      record {
        room = rw length-set pool.room;
        stack = rw (length-set free spare f, length-set ts f false) pool.stack;
        small = rw length-set pool.small;
        counted = omega (arith, more, pool.counted);
        listed = λ i b. rw length-set (⊎_elim (λ lt. rw (low i lt) (pool.listed i lt))
            (λ ge. let e : i ≡ spare = omega arith in rw (e, high) within) (cases_lt i spare));
        unmarked = λ i b. ⊎_elim (λ lt. rw (low i lt) (unmarked (get_or free i 0) (pool.unmarked i lt)))
            (λ ge. let e : i ≡ spare = omega arith in rw (e, high) (get_or-set_same ts f false false within)) (cases_lt i spare);
        apart = λ i j b d e. ⊎_elim
            (λ lt. ⊎_elim (λ lu. pool.apart i j lt lu (sym (low i lt) ∙ e ∙ low j lu))
            (λ gu. let q : j ≡ spare = omega arith in absurd (new i lt (sym (low i lt) ∙ e ∙ (rw q high)))) (cases_lt j spare))
            (λ ge. let p : i ≡ spare = omega arith in ⊎_elim
            (λ lu. absurd (new j lu (sym (low j lu) ∙ sym e ∙ (rw p high))))
            (λ gu. omega arith) (cases_lt j spare))
            (cases_lt i spare);
      }

  -- words are written
  pub pool_written : (us : List ℕ) → length us ≡ length ws → IsPool size us ts free spare
  pool_written us len = record {
    room = len ∙ pool.room;
    stack = pool.stack;
    small = pool.small;
    counted = pool.counted;
    listed = pool.listed;
    unmarked = pool.unmarked;
    apart = pool.apart;
  }

  -- the words of a frame that shows words lie in the store
  pub frame_room : (frames : Frames) → frames_of size ws ts ≡ frames → (f : ℕ) → IsSome (get_or frames f None) → f * size + size ≤ length ws
  frame_room frames view f h = frame_fits size (length ts) (length ws) f pool.room
      (marked_below ts f (is_marked size ws ts frames view f h))
