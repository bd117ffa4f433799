-- Frames of a hart: none is taken off where there is none, and a copy frame by frame.
use Rattle.std.proofs.Common.{◌≡◌, ℕ, ◌+◌, ◌<◌, ◌≤◌, false, ◌==◌, List, [], ◌∷◌, ◌++◌, length, get_or, take, Option, Some, None, refl, sym}
use Rattle.std.proofs.Common.{ap, ◌∙◌, arith}
use Rattle.std.specs.List.{last_or}
use Rattle.std.specs.Prelude.{is_err, OnOk, Result, slice_get}
use Rattle.std.proofs.lemmas.Bool.{ne_eqb}
use Rattle.std.proofs.lemmas.List.{length-take-le, take_more}
use Rattle.std.proofs.lemmas.Option.{get_or_from_slice_get, slice_get-get_or}
use Rattle.mx_model.specs.declared.values.Frame.{Frame}
use Rattle.mx_model.specs.Gates.{below_top, top}
use Rattle.mx_machine.specs.declared.hart.Hart.{Hart}
use Rattle.mx_machine.specs.Steps.{gives_up, gives_up_over, halts, returns_by, returns_over}

-- a list with a last element has one
last-none : {X : Type 0} (x : X) (xs : List X) → last_or (Some x) xs ≡ None → [] ≡ x ∷ xs
last-none x [] e = cc
last-none x (y ∷ ys) e = let f : [] ≡ y ∷ ys = last-none y ys e in cc

none-below : (frames : List Frame) → top frames ≡ None → below_top frames ≡ frames
none-below [] e = refl
none-below (f ∷ fs) e = let clash : [] ≡ f ∷ fs = last-none f fs e in cc

-- a hart without a frame is halted by a fault, and stays at a return
pub gives-up-none : (cause : ℕ) (x : Hart) (frames : List Frame) → None ≡ top x.frames → frames ≡ below_top x.frames →
    halts None (record x { frames = frames }) ≡ gives_up cause x
gives-up-none cause x frames none e =
    ap (λ (fs : List Frame). halts None (record x { frames = fs })) (e ∙ none-below x.frames (sym none))
    ∙ ap (λ (o : Option Frame). gives_up_over cause x o) none

pub returns-none : (rd : ℕ) (x : Hart) (frames : List Frame) → None ≡ top x.frames → frames ≡ below_top x.frames →
    record x { frames = frames } ≡ returns_over rd x
returns-none rd x frames none e =
    ap (λ (fs : List Frame). record x { frames = fs }) (e ∙ none-below x.frames (sym none))
    ∙ ap (λ (o : Option Frame). returns_by rd x o) none

-- one more frame is copied
ok-pushed : {A B : Type 0} (r : Result A B) (C : Type 0) → is_err r ≡ false → OnOk r C → C
ok-pushed x x1 e p = grind arith

pub frame-copied : {A B : Type 0} {frame : Frame} (frames copy new : List Frame) (i : ℕ) (r : Result A B) → copy ≡ take i frames
    → i < length frames →
    length frames ≤ 64 → Some frame ≡ slice_get frames i → is_err r ≡ (length copy == 64) → OnOk r (new ≡ copy ++ frame ∷ [])
    → new ≡ take (i + 1) frames
frame-copied {frame = frame} frames copy new i r e lt few at full ok =
    let count : length copy ≡ i = ap length e ∙ length-take-le i frames (omega (arith, lt)) in
    let room : (length copy == 64) ≡ false = ne_eqb (length copy) 64 (λ q. absurd (omega (arith, q, count, lt, few))) in
    ok-pushed r (new ≡ copy ++ frame ∷ []) (full ∙ room) ok
    ∙ ap (λ (fs : List Frame). fs ++ frame ∷ []) e
    ∙ ap (λ (f : Frame). take i frames ++ f ∷ []) (sym (get_or_from_slice_get frames i frame frame (sym at)))
    ∙ sym (take_more frames i frame lt)

pub frame-there : (frames : List Frame) (i : ℕ) (d : Frame) → i < length frames → None ≡ slice_get frames i → ⊥
frame-there frames i d lt none = let clash : None ≡ Some (get_or frames i d) = none ∙ slice_get-get_or frames i d lt in cc
