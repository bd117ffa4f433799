-- What the flat store shows at each frame, and what a change of one frame leaves of the others.
use Rattle.std.proofs.Common.{ℕ, zero, suc, ◌≡◌, ◌≢◌, ◌+◌, ◌*◌, ◌<◌, ◌≤◌, ◌⊎◌, inl, inr, ⊎_elim, min, Bool, true, false, not, cond, List}
use Rattle.std.proofs.Common.{[], ◌∷◌, Option, None, Some, IsSome, is_none, unwrap_or, length, take, drop, set, replicate, get_or, refl}
use Rattle.std.proofs.Common.{sym, ◌∙◌, ap, arith, length-drop, length-take, length-set, get_or-set_other}
use Rattle.std.specs.Prelude.{if◌then◌else◌}
use Rattle.std.proofs.lemmas.List.{drop-drop, ext_get_or, get_or-take, get_or-drop, get_or-replicate, length-replicate, get_or_past}
use Rattle.std.proofs.lemmas.List.{drop-set-add}
use Rattle.std.proofs.lemmas.List.Sums.{sum_by-cons, sum_by-set}
use Rattle.std.proofs.lemmas.Bool.{cases_lt}
use Rattle.std.specs.List.{count_by}
use Rattle.std.proofs.Math.Nat.{mul-le-mul_right}
use Rattle.std.proofs.SliceLists.{take-set}
use Rattle.mx_pool.specs.Frames.{Frames}
use Rattle.mx_pool.specs.Stored.{frames_of}

-- frame f is its words or none, by its mark
pub get_or-frames_of : (size : ℕ) (ws : List ℕ) (ts : List Bool) (f : ℕ) →
    get_or (frames_of size ws ts) f None ≡ cond (get_or ts f false) (Some (take size (drop (f * size) ws))) None
unfolding frames_of
get_or-frames_of size ws [] f = refl
get_or-frames_of size ws (t ∷ ts) zero =
    let e : 0 * size ≡ 0 = omega arith in
    rw e (elim t as (λ b. ◌≡◌ {A = Option (List ℕ)} (if b then Some (take size ws) else None) (cond b (Some (take size ws)) None)) [
      | true ↦
          refl
      | false ↦ refl
    ])
get_or-frames_of size ws (t ∷ ts) (suc f) =
    let e : suc f * size ≡ size + f * size = omega arith in
    rw (e, ← drop-drop (f * size) size ws) (get_or-frames_of size (drop size ws) ts f)

pub length-frames_of : (size : ℕ) (ws : List ℕ) (ts : List Bool) → length (frames_of size ws ts) ≡ length ts
unfolding frames_of
length-frames_of size ws [] = refl
length-frames_of size ws (t ∷ ts) = ap suc (length-frames_of size (drop size ws) ts)

-- the free frames are those without a mark
pub free_in-frames_of : (size : ℕ) (ws : List ℕ) (ts : List Bool) → count_by is_none (frames_of size ws ts) ≡ count_by not ts
unfolding frames_of
free_in-frames_of size ws [] = refl
free_in-frames_of size ws (t ∷ ts) =
    let F : Option (List ℕ) → ℕ = λ o. cond (is_none o) 1 0 in
    let G : Bool → ℕ = λ b. cond (not b) 1 0 in
    let frame : Option (List ℕ) = if t then Some (take size ws) else None in
    let same : F frame ≡ G t = elim t as (λ b. cond (is_none (if b then Some (take size ws) else None)) 1 0 ≡ G b) [
      | true ↦ refl
      | false ↦
          refl
    ] in
    let ih : count_by is_none (frames_of size (drop size ws) ts) ≡ count_by not ts = free_in-frames_of size (drop size ws) ts in
    sum_by-cons F frame (frames_of size (drop size ws) ts) ∙ (rw (same, ih) (sym (sum_by-cons G t ts)))

-- with no mark each frame is free
pub frames_of-unmarked : (size n : ℕ) (ws : List ℕ) → frames_of size ws (replicate n false) ≡ replicate n None
unfolding frames_of
frames_of-unmarked size zero ws = refl
frames_of-unmarked size (suc n) ws = ap (λ (fs : Frames). None ∷ fs) (frames_of-unmarked size n (drop size ws))

-- a frame that shows words has its mark
pub is_marked : (size : ℕ) (ws : List ℕ) (ts : List Bool) (frames : Frames) → frames_of size ws ts ≡ frames →
    (f : ℕ) → IsSome (get_or frames f None) → get_or ts f false ≡ true
is_marked size ws ts frames view f h =
    let shown : IsSome (get_or (frames_of size ws ts) f None) = rw view h in
    let seen : IsSome (cond (get_or ts f false) (Some (take size (drop (f * size) ws))) None) = rw get_or-frames_of at shown in
    marked_by (get_or ts f false) (take size (drop (f * size) ws)) seen
  where
    marked_by : (b : Bool) (w : List ℕ) → IsSome (cond b (Some w) None) → b ≡ true
    marked_by true w s = refl
    marked_by false w s = s

-- a marked frame is one of the pool's
pub marked_below : (ts : List Bool) (f : ℕ) → get_or ts f false ≡ true → f < length ts
marked_below ts f h = ⊎_elim (λ lt. lt) (λ le. let past : get_or ts f false ≡ false = get_or_past ts f false le in cc)
    (cases_lt f (length ts))

-- what a marked frame and an unmarked one show
pub marked_shows : (size : ℕ) (ws : List ℕ) (ts : List Bool) (f : ℕ) → get_or ts f false ≡ true
    → get_or (frames_of size ws ts) f None ≡ Some (take size (drop (f * size) ws))
marked_shows size ws ts f h = rw (get_or-frames_of, h) refl

pub unmarked_shows : (size : ℕ) (ws : List ℕ) (ts : List Bool) (f : ℕ) → get_or ts f false ≡ false
    → get_or (frames_of size ws ts) f None ≡ None
unmarked_shows size ws ts f h = rw (get_or-frames_of, h) refl

-- a word of a frame that shows words
pub word_shown : (size : ℕ) (ws : List ℕ) (ts : List Bool) (frames : Frames) → frames_of size ws ts ≡ frames →
    (f at : ℕ) → IsSome (get_or frames f None) → at < size → get_or (unwrap_or (get_or frames f None) []) at 0 ≡ get_or ws (f * size + at) 0
word_shown size ws ts frames view f at h lt =
    rw (
      ← view,
      marked_shows size ws ts f (is_marked size ws ts frames view f h),
      get_or-take size (drop (f * size) ws) at 0 lt,
      get_or-drop
          (f * size) ws at 0,
    ) refl

-- the words of a frame lie in the store
pub frame_fits : (size n total f : ℕ) → total ≡ n * size → f < n → f * size + size ≤ total
frame_fits size n total f e h =
    let next : f + 1 ≤ n = omega arith in
    omega (arith, mul-le-mul_right size next)

-- the words of another frame lie below or after
pub frames_apart : (size f g k : ℕ) → g ≢ f → k < size → (g * size + k < f * size) ⊎ (f * size + size ≤ g * size + k)
frames_apart size f g k ne h =
    ⊎_elim (λ lt. let next : g + 1 ≤ f = omega arith in inl (omega (arith, mul-le-mul_right size next)))
    (λ le. let next : f + 1 ≤ g = omega arith in inr (omega (arith, mul-le-mul_right size next)))
    (cases_lt g f)

-- two stores that are the same but for frame f's words
pub record SameOutside (size f : ℕ) (ws us : List ℕ) : Type 0 where
  pub total : length us ≡ length ws
  pub below : (i : ℕ) → i < f * size → get_or us i 0 ≡ get_or ws i 0
  pub behind : (i : ℕ) → f * size + size ≤ i → get_or us i 0 ≡ get_or ws i 0

pub words_elsewhere : (size f g : ℕ) (ws us : List ℕ) → SameOutside size f ws us → g ≢ f
    → take size (drop (g * size) us) ≡ take size (drop (g * size) ws)
words_elsewhere size f g ws us same ne =
    ext_get_or 0 (take size (drop (g * size) us)) (take size (drop (g * size) ws)) (simp (length-take, length-drop, same.total))
    (λ k h. let lt : k < size = let h' : k < min size (length (drop (g * size) us)) = rw length-take at h in omega arith in
    rw (
      get_or-take size (drop (g * size) us) k 0 lt,
      get_or-take size (drop (g * size) ws) k 0 lt,
      get_or-drop (g * size) us k
          0,
      get_or-drop (g * size) ws k 0,
    )
    (⊎_elim (λ b. same.below (g * size + k) b) (λ b. same.behind (g * size + k) b) (frames_apart size f g k ne lt)))

-- another frame, where its mark stays, shows what it showed
pub shown_elsewhere : (size f g : ℕ) (ws us : List ℕ) (ts ss : List Bool) → SameOutside size f ws us → g ≢ f
    → get_or ss g false ≡ get_or ts g false →
    get_or (frames_of size us ss) g None ≡ get_or (frames_of size ws ts) g None
shown_elsewhere size f g ws us ts ss same ne mark =
    rw (get_or-frames_of size us ss g, get_or-frames_of size ws ts g, mark, words_elsewhere size f g ws us same ne) refl

pub same_outside : (size f : ℕ) (ws : List ℕ) → SameOutside size f ws ws
same_outside size f ws = record { total = refl; below = λ i h. refl; behind = λ i h. refl }

-- one word of frame f is written
pub set_outside : (size f at v : ℕ) (ws : List ℕ) → at < size → SameOutside size f ws (set ws (f * size + at) v)
set_outside size f at v ws h = record {
  total = length-set ws (f * size + at) v;
  below = λ i b. get_or-set_other ws (f * size + at) i v 0 (λ e. omega arith);
  behind = λ i b. get_or-set_other ws (f * size + at) i v 0 (λ e. omega arith);
}

pub set_inside : (size f at v : ℕ) (ws : List ℕ) →
    take size (drop (f * size) (set ws (f * size + at) v)) ≡ set (take size (drop (f * size) ws)) at v
set_inside size f at v ws = rw (drop-set-add (f * size) ws at v) (take-set (drop (f * size) ws) size at v)

-- the words of frame f are all 0
pub zeroed_shows : (size f : ℕ) (us : List ℕ) → f * size + size ≤ length us
    → ((i : ℕ) → f * size ≤ i → i < f * size + size → get_or us i 0 ≡ 0) →
    take size (drop (f * size) us) ≡ replicate size 0
zeroed_shows size f us fits zeros =
    ext_get_or 0 (take size (drop (f * size) us)) (replicate size 0) (simp (length-take, length-drop, length-replicate) (omega arith))
    (λ k h. let lt : k < size = let h' : k < min size (length (drop (f * size) us)) = rw length-take at h in omega arith in
    rw (get_or-take size (drop (f * size) us) k 0 lt, get_or-drop, get_or-replicate {A = ℕ} size k 0 0 lt)
    (zeros (f * size + k) (omega arith) (omega arith)))

-- a mark set, and a mark taken away, in the count of free frames
pub count-mark : (ts : List Bool) (f : ℕ) → f < length ts → get_or ts f false ≡ false → count_by not (set ts f true) + 1 ≡ count_by not ts
count-mark ts f h free =
    let one : ◌≡◌ {A = ℕ} (cond (not (get_or ts f false)) 1 0) 1 = rw free refl in
    omega (arith, sum_by-set (λ (b : Bool). cond (not b) 1 0) ts f true false h, one)

pub count-unmark : (ts : List Bool) (f : ℕ) → f < length ts → get_or ts f false ≡ true → count_by not (set ts f false) ≡ count_by not ts + 1
count-unmark ts f h taken =
    let none : ◌≡◌ {A = ℕ} (cond (not (get_or ts f false)) 1 0) 0 = rw taken refl in
    omega (arith, sum_by-set (λ (b : Bool). cond (not b) 1 0) ts f false false h, none)
