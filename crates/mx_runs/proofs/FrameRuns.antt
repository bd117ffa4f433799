-- A hart's frames along a run: a call leaves what lies below it, and gives it back at its end.
use Rattle.std.proofs.Common.{◌≡◌, ℕ, zero, suc, ◌+◌, ◌-◌, ◌<◌, ◌≤◌, Bool, true, false, ◌==◌, List, [], ◌∷◌, ◌++◌, length, get_or, take}
use Rattle.std.proofs.Common.{refl, sym, ◌∙◌, ap, subst, arith, length-append}
use Rattle.std.specs.Prelude.{◌↔◌}
use Rattle.std.proofs.Math.ListN.{get_or-append}
use Rattle.std.proofs.Math.Seq.{get_or-append_seam, take-append_seam}
use Rattle.std.proofs.lemmas.Bool.{eqb-true, eqb-false}
use Rattle.std.proofs.lemmas.List.{take-append-le}
use Rattle.mx_model.specs.declared.values.Frame.{Frame}
use Rattle.mx_model.specs.Reads.{reads}
use Rattle.mx_model.specs.Run.{Schedule, hart_of, is_stopped, run, turn}
use Rattle.mx_model.specs.State.{Hart, State, hart_at}
use Rattle.mx_model.specs.Valid.{IsValid}
use Rattle.mx_model.proofs.RunLaws.{run-add}
use Rattle.mx_model.proofs.RunSteps.{next_of, run-going, run-stopped}
use Rattle.mx_model.proofs.TurnLaws.{valid-turned}
use Rattle.mx_laws.specs.After.{frames_at}
use Rattle.mx_laws.specs.Crossing.{FramesAfter, IsBack, OneLess, OneMore, Stay, frame_of}
use Rattle.mx_laws.proofs.FrameLaws.{frames-others, frames-turned}
use Rattle.mx_runs.specs.GateCalls.{Crosses, GivesBack, IsGateCall, Leaves, at, depth, hart_then}
use Rattle.mx_runs.proofs.FrameKinds.{crossed-deeper, fewer-leaves}

-- a run keeps validity
valid-run : (p : Schedule) (n : ℕ) (s : State) → IsValid s.core → IsValid (run p n s).core
valid-run p zero s v = v
valid-run p (suc n) s v = elim (is_stopped p s) as (λ b. IsValid (next_of p n s b).core) [
  | true ↦ v
  | false ↦ valid-run p n (turn s (hart_of p s.core)) (valid-turned (reads s) s.core (hart_of p s.core) v)
]

-- one more moment of a run: hart h makes no turn and keeps its frames, or it makes one
data Moment (p : Schedule) (s : State) (h : ℕ) : Type 0 where
  Still : frames_at (run p 1 s).core h ≡ frames_at s.core h → Moment p s h
  Makes : is_stopped p s ≡ false → hart_of p s.core ≡ h → run p 1 s ≡ turn s h → Moment p s h

moves : (p : Schedule) (s : State) (h : ℕ) → is_stopped p s ≡ false → (b : Bool) → (hart_of p s.core == h) ≡ b →
    Moment p s h
moves p s h go x e = grind (arith, eqb-true, run-going, eqb-false, frames-others)

moment : (p : Schedule) (s : State) (h : ℕ) → Moment p s h
moment p s h = search (arith, run-stopped, moves, s.core)

-- the hart's frames one moment later, by what the hart did
frames-later : (p : Schedule) (s : State) (h m : ℕ) →
    frames_at (at p s (m + 1)).core h ≡ frames_at (run p 1 (at p s m)).core h
frames-later p s h m = ap (λ (t : State). frames_at t.core h) (run-add p m 1 s)

-- more frames a moment later, exactly where the hart crossed
deeper-crosses : (p : Schedule) (s : State) (h m : ℕ) → Moment p (at p s m) h → depth p s h m < depth p s h (m + 1) →
    Crosses p s h m
deeper-crosses p s h m x l = grind (arith, frames-later, crossed-deeper)

crosses-deeper : (p : Schedule) (s : State) (h m : ℕ) → Crosses p s h m → depth p s h m < depth p s h (m + 1)
crosses-deeper p s h m c = search (arith, frames-later, run-going, crossed-deeper)

pub crosses-tell : (p : Schedule) (s : State) (h m : ℕ) → (depth p s h m < depth p s h (m + 1)) ↔ Crosses p s h m
crosses-tell p s h m = (deeper-crosses p s h m (moment p (at p s m) h), crosses-deeper p s h m)

-- fewer frames a moment later, only where the hart left a call
fewer-left : (p : Schedule) (s : State) (h m : ℕ) → Moment p (at p s m) h → depth p s h (m + 1) < depth p s h m →
    Leaves p s h (m + 1)
fewer-left p s h m x l = grind (arith, frames-later, fewer-leaves)

-- the moment before a call's end has more frames than its beginning
before-end : (p : Schedule) (s : State) (h m k : ℕ) → IsGateCall p s h m (suc k) →
    (m < k) × (depth p s h m < depth p s h k)
before-end p s h m k c =
    let l = c.later in
    elim (m == k) as (λ b. (m == k) ≡ b → (m < k) × (depth p s h m < depth p s h k)) [
      | true ↦ λ e. absurd (
          let q : m ≡ k = eqb-true m k e in
          let same : m + 1 ≡ suc k = omega (arith, q) in
          let x : depth p s h m < depth p s h (suc k) =
          subst (λ (i : ℕ). depth p s h m < depth p s h i) same c.begins in
          let y = c.ends in
          let r : ⊥ = omega (arith, x, y) in r)
      | false ↦ search (arith, eqb-false, c.inside)
    ] refl

pub call-leaves : (p : Schedule) (s : State) (h m n : ℕ) → IsGateCall p s h m n → Leaves p s h n
call-leaves p s h m zero c = absurd ((omega arith))
call-leaves p s h m (suc k) c =
    let b = before-end p s h m k c in
    let same : k + 1 ≡ suc k = omega arith in
    let y = c.ends in
    let fewer : depth p s h (suc k) < depth p s h k = let x = b.1 in omega (arith, x, y) in
    subst (λ (i : ℕ). Leaves p s h i) same
    (fewer-left p s h k (moment p (at p s k) h) (subst (λ (i : ℕ). depth p s h i < depth p s h k) (sym same) fewer))

-- frames that lie above those of before, with f right above these
record Above (before : List Frame) (f : Frame) (fs : List Frame) : Type 0 where
  deep : length before < length fs
  below : take (length before) fs ≡ before
  first : get_or fs (length before) f ≡ f

-- one more is pushed, and one is given up that isn't f
above-pushed : (before : List Frame) (f g : Frame) (fs : List Frame) → Above before f fs → Above before f (fs ++ g ∷ [])
above-pushed before f g fs a =
    let l = a.deep in
    let n = length-append fs (g ∷ []) in
    record {
      deep = omega (arith, l, n);
      below = take-append-le (length before) fs (g ∷ []) (omega (arith, l)) ∙ a.below;
      first = get_or-append fs (g ∷ []) f (length before) l ∙ a.first;
    }

above-given : (before : List Frame) (f g : Frame) (fs gs : List Frame) → fs ≡ gs ++ g ∷ [] → Above before f fs →
    length before < length gs → Above before f gs
above-given before f g fs gs e a l = record {
  deep = l;
  below = sym (take-append-le (length before) gs (g ∷ []) (omega (arith, l))) ∙ sym (ap (take (length before)) e)
      ∙ a.below;
  first = sym (get_or-append gs (g ∷ []) f (length before) l)
      ∙ sym (ap (λ (xs : List Frame). get_or xs (length before) f) e) ∙ a.first;
}

-- f itself is given up
record IsLast (before : List Frame) (f g : Frame) (gs : List Frame) : Type 0 where
  frames : gs ≡ before
  frame : g ≡ f

above-last : (before : List Frame) (f g : Frame) (fs gs : List Frame) → fs ≡ gs ++ g ∷ [] → Above before f fs →
    length gs ≤ length before → IsLast before f g gs
above-last before f g fs gs e a l =
    let deep = a.deep in
    let n = length-append gs (g ∷ []) in
    let m = ap length e in
    let same : length before ≡ length gs = omega (arith, deep, n, m, l) in
    record {
      frames = sym (take-append_seam gs (g ∷ [])) ∙ sym (ap (take (length gs)) e)
          ∙ ap (λ (k : ℕ). take k fs) (sym same) ∙ a.below;
      frame = sym (get_or-append_seam gs g [] f) ∙ sym (ap (λ (xs : List Frame). get_or xs (length gs) f) e)
          ∙ ap (λ (k : ℕ). get_or fs k f) (sym same) ∙ a.first;
    }

-- what a moment makes of hart h, in a valid state
hart-later : (p : Schedule) (s : State) (h : ℕ) → IsValid s.core → Moment p s h →
    FramesAfter (hart_at s.core h) (hart_at (run p 1 s).core h)
hart-later p s h v (Still e) = Stay e
hart-later p s h v (Makes go own e) =
    subst (λ (t : State). FramesAfter (hart_at s.core h) (hart_at t.core h)) (sym e)
    (frames-turned (reads s) s.core h v)

later : (p : Schedule) (s : State) (h m : ℕ) → IsValid s.core →
    FramesAfter (hart_then p s h m) (hart_then p s h (m + 1))
later p s h m v =
    subst (λ (t : State). FramesAfter (hart_then p s h m) (hart_at t.core h)) (sym (run-add p m 1 s))
    (hart-later p (at p s m) h (valid-run p m s v) (moment p (at p s m) h))

-- the frame of a crossing lies right above those of before
above-crossed : (x y : Hart) → FramesAfter x y → length x.frames < length y.frames →
    Above x.frames (frame_of x) y.frames
above-crossed x y (Stay e) l = absurd (let q = ap length e in (omega (arith, q, l)))
above-crossed x y (OneLess f e b) l = search (arith, length-append, y.frames)
above-crossed x y (OneMore e) l =
    subst (Above x.frames (frame_of x)) (sym e) (record {
      deep = let n = length-append x.frames (frame_of x ∷ []) in omega (arith, n);
      below = take-append_seam x.frames (frame_of x ∷ []);
      first = get_or-append_seam x.frames (frame_of x) [] (frame_of x);
    })

-- it does so as long as there are more frames than before
above-later : (before : List Frame) (f : Frame) (x y : Hart) → Above before f x.frames → FramesAfter x y →
    length before < length y.frames → Above before f y.frames
above-later before f x y a (Stay e) l = subst (Above before f) (sym e) a
above-later before f x y a (OneMore e) l =
    subst (Above before f) (sym e) (above-pushed before f (frame_of x) x.frames a)
above-later before f x y a (OneLess g e b) l = above-given before f g x.frames y.frames e a l

-- and when there aren't, the hart is back
record IsBackAt (before : List Frame) (f : Frame) (y : Hart) : Type 0 where
  frames : y.frames ≡ before
  back : IsBack f y

back-later : (before : List Frame) (f : Frame) (x y : Hart) → Above before f x.frames → FramesAfter x y →
    length y.frames ≤ length before → IsBackAt before f y
back-later before f x y a (Stay e) l =
    absurd (let q = ap length e in let d = a.deep in let r : ⊥ = omega (arith, q, l, d) in r)
back-later before f x y a (OneMore e) l =
    absurd (let n = length-append x.frames (frame_of x ∷ []) in let q = ap length e in let d = a.deep in
    let r : ⊥ = omega (arith, q, l, d, n) in r)
back-later before f x y a (OneLess g e b) l =
    let k = above-last before f g x.frames y.frames e a l in
    record { frames = k.frames; back = subst (λ (i : Frame). IsBack i y) k.frame b }

-- the frame of the crossing at moment m lies there at every moment inside the call
above-inside : (p : Schedule) (s : State) (h m n : ℕ) → IsValid s.core → IsGateCall p s h m n → (j : ℕ) →
    m + 1 + j < n →
    Above (hart_then p s h m).frames (frame_of (hart_then p s h m)) (hart_then p s h (m + 1 + j)).frames
above-inside p s h m n v c zero l =
    let x = hart_then p s h m in
    subst (λ (k : ℕ). Above x.frames (frame_of x) (hart_then p s h k).frames) (omega arith)
    (above-crossed x (hart_then p s h (m + 1)) (later p s h m v) c.begins)
above-inside p s h m n v c (suc j) l =
    let x = hart_then p s h m in
    let k = m + 1 + j in
    let same : k + 1 ≡ m + 1 + suc j = omega arith in
    subst (λ (i : ℕ). Above x.frames (frame_of x) (hart_then p s h i).frames) same
    (above-later x.frames (frame_of x) (hart_then p s h k) (hart_then p s h (k + 1))
    (above-inside p s h m n v c j (omega (arith, l)))
    (later p s h k v) (c.inside (k + 1) (omega arith) (omega (arith, l))))

-- a call gives back
back-end : (p : Schedule) (s : State) (h m k : ℕ) → IsValid s.core → IsGateCall p s h m (suc k) → m < k →
    IsBackAt (hart_then p s h m).frames (frame_of (hart_then p s h m)) (hart_then p s h (suc k))
back-end p s h m k v c l =
    let x = hart_then p s h m in
    let next : k + 1 ≡ suc k = omega arith in
    let inside = subst (λ (i : ℕ). Above x.frames (frame_of x) (hart_then p s h i).frames) (omega (arith, l))
    (above-inside p s h m (suc k) v c (k - (m + 1)) (omega (arith, l))) in
    back-later x.frames (frame_of x) (hart_then p s h k) (hart_then p s h (suc k)) inside
    (subst (λ (i : ℕ). FramesAfter (hart_then p s h k) (hart_then p s h i)) next (later p s h k v)) c.ends

pub call-gives_back : (p : Schedule) (s : State) (h m n : ℕ) → IsValid s.core → IsGateCall p s h m n →
    GivesBack p s h m n
call-gives_back p s h m zero v c = absurd ((omega arith))
call-gives_back p s h m (suc k) v c = grind (arith, before-end, back-end)
