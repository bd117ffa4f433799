-- What the kind of a turn tells of its hart's frames, in every state.
use Rattle.std.proofs.Common.{◌≡◌, ◌≢◌, ◌⊎◌, inl, inr, ⊎_elim, ℕ, ◌-◌, ◌<◌, ◌≤◌, Bool, true, false, cond, List, [], ◌∷◌, ◌++◌, length}
use Rattle.std.proofs.Common.{get_or, set, refl, sym, ◌∙◌, ap, subst, arith, length-append, Option, Some, None, unwrap_or}
use Rattle.std.specs.Prelude.{◌↔◌, slice_set}
use Rattle.std.proofs.lemmas.List.{get_or-set_same, length-take}
use Rattle.mx_words.specs.Hearing.{nobody}
use Rattle.mx_model.specs.declared.values.Call.{Call}
use Rattle.mx_model.specs.declared.values.Frame.{Frame}
use Rattle.mx_model.specs.declared.values.TurnKind.{TurnKind}
use Rattle.mx_model.specs.declared.values.TurnKind.TheVariants as T
use Rattle.mx_model.specs.Effect.{next, reg, written}
use Rattle.mx_model.specs.Gates.{below_top, nearest}
use Rattle.mx_model.specs.Reads.{Reads}
use Rattle.mx_model.specs.Serve.{Served, serve}
use Rattle.mx_model.specs.State.{Core, Halted, Hart, Running, Waiting, hart_at, no_hart}
use Rattle.mx_model.specs.Turn.{Action, Asks, Bounces, Crosses, Made, Rests, Returns, Runs, Serves, Traps, Waits, Writes, acted, answered}
use Rattle.mx_model.specs.Turn.{asked, by_status, done, fault_answer, given_up, halted, is_served_now, stack_address, with_regs}
use Rattle.mx_laws.specs.After.{core_after, frames_at, kind_of}
use Rattle.mx_laws.specs.Crossing.{frame_of}
use Rattle.mx_laws.proofs.FrameLaws.{going, harts-killed, harts-serve, over}
use Rattle.mx_laws.proofs.Lawful.{present}
use Rattle.mx_laws.proofs.TurnParts.{apart, by-action}
use Rattle.mx_runs.specs.GateCalls.{depth_of}

abbrev pub IsLeaving : TurnKind → Type 0
IsLeaving k = (k ≡ T.Returned) ⊎ (k ≡ T.Trapped)

-- the frames before and after a turn of a kind
pub data Tells (before after : List Frame) (k : TurnKind) : Type 0 where
  Same : after ≡ before → k ≢ T.Crossed → Tells before after k
  More : (f : Frame) → after ≡ before ++ f ∷ [] → k ≡ T.Crossed → Tells before after k
  Less : length after ≤ length before → IsLeaving k → Tells before after k

idle-no : T.Idle ≢ T.Crossed
idle-no e = cc

waited-no : T.Waited ≢ T.Crossed
waited-no e = cc

ran-no : T.Ran ≢ T.Crossed
ran-no e = cc

called-no : T.Called ≢ T.Crossed
called-no e = cc

trapped-no : T.Trapped ≢ T.Crossed
trapped-no e = cc

returned-no : T.Returned ≢ T.Crossed
returned-no e = cc

leaving-no : (k : TurnKind) → IsLeaving k → k ≢ T.Crossed
leaving-no k p e = ⊎_elim (λ q. returned-no (sym q ∙ e)) (λ q. trapped-no (sym q ∙ e)) p

-- the harts after an action: they are as they were, or hart h is another
data Puts (old new : List Hart) (h : ℕ) (fs : List Frame) (k : TurnKind) : Type 0 where
  Left : new ≡ old → k ≢ T.Crossed → Puts old new h fs k
  Put : (y : Hart) → new ≡ set old h y → Tells fs y.frames k → Puts old new h fs k

-- a call leaves the frames
puts-done : (h : ℕ) (x : Hart) (s : Served) (old : List Hart) → s.core.harts ≡ old →
    Puts old (done h x s).core.harts h x.frames T.Called
puts-done h x s old e =
    let y : Hart = record x { status = Halted (Some s.a0) } in
    let z : Hart = record x { regs = answered x s.a0 s.a1; pc = next x.pc; status = Running } in
    elim s.stop as
    (λ b. Puts old
    (cond b (halted h x (Some s.a0) s.core) (with_regs h x (answered x s.a0 s.a1) (next x.pc) s.core)).harts
    h x.frames T.Called) [
      | true ↦ Put y (ap (λ (hs : List Hart). set hs h y) e) (Same refl called-no)
      | false ↦ Put z (ap (λ (hs : List Hart). set hs h z) e) (Same refl called-no)
    ]

puts-asked : (r : Reads) (c : Core) (h : ℕ) (x : Hart) (call : Call) (b : Bool) →
    Puts c.harts (asked r c h x call b).core.harts h x.frames (asked r c h x call b).kind
puts-asked r c h x call true = puts-done h x (serve r c call) c.harts (harts-serve r c call)
puts-asked r c h x call false = Put (record x { status = Waiting call nobody }) refl (Same refl called-no)

-- the frames below the top are no more than all
few-below : (fs : List Frame) → length (below_top fs) ≤ length fs
few-below fs = let e = length-take (length fs - 1) fs in omega (arith, e)

puts-given_up : (c : Core) (h : ℕ) (x : Hart) (cause : ℕ) (old : List Hart) → c.harts ≡ old → (o : Option Frame) →
    Puts old (given_up c h x cause o).harts h x.frames T.Trapped
puts-given_up c h x cause old e None =
    let y : Hart = record x { status = Halted None } in
    Put y (ap (λ (hs : List Hart). set hs h y) e) (Same refl trapped-no)
puts-given_up c h x cause old e (Some f) =
    let y = over x f (slice_set x.regs 10 (fault_answer cause)) in
    Put y (ap (λ (hs : List Hart). set hs h y) e) (Less (few-below x.frames) (inr refl))

puts-acted : (r : Reads) (c : Core) (h : ℕ) (x : Hart) (a : Action) →
    Puts c.harts (acted r c h x a).core.harts h x.frames (acted r c h x a).kind
puts-acted r c h x Rests = Left refl idle-no
puts-acted r c h x Waits = Left refl waited-no
puts-acted r c h x (Serves call) = puts-done h x (serve r c call) c.harts (harts-serve r c call)
puts-acted r c h x (Asks call) = puts-asked r c h x call (is_served_now c h call)
puts-acted r c h x (Traps cause value) = search (arith, puts-given_up, harts-killed)
puts-acted r c h x Bounces =
    Put (going x (slice_set x.regs 10 (fault_answer 20)) (reg x.regs 1)) refl (Same refl returned-no)
puts-acted r c h x (Crosses target) =
    let y : Hart = record x {
      regs = slice_set x.regs 2 (unwrap_or (nearest x.frames target) (stack_address c target h));
      domain = target;
      frames = x.frames ++ frame_of x ∷ [];
      status = Running;
    } in Put y refl (More (frame_of x) refl refl)
puts-acted r c h x (Returns rd frame) =
    Put (over x frame (written x.regs rd (next x.pc))) refl (Less (few-below x.frames) (inl refl))
puts-acted r c h x (Runs regs pc) = Put (going x regs pc) refl (Same refl ran-no)
puts-acted r c h x (Writes address size value) = Put (going x x.regs (next x.pc)) refl (Same refl ran-no)

-- the hart at its place
own-puts : (h : ℕ) (x : Hart) (old new : List Hart) (k : TurnKind) → h < length old →
    (get_or old h no_hart).frames ≡ x.frames →
    Puts old new h x.frames k → Tells x.frames (get_or new h no_hart).frames k
own-puts h x old new k l e (Left n q) = Same (ap (λ (hs : List Hart). (get_or hs h no_hart).frames) n ∙ e) q
own-puts h x old new k l e (Put y n p) =
    subst (λ (z : Hart). Tells x.frames z.frames k)
    (sym (ap (λ (hs : List Hart). get_or hs h no_hart) n ∙ get_or-set_same old h y no_hart l)) p

-- a turn
pub tells-turned : (r : Reads) (c : Core) (h : ℕ) →
    Tells (frames_at c h) (frames_at (core_after r c h) h) (kind_of r c h)
tells-turned r c h =
    let t = by-action r c h in
    let x = hart_at c h in
    let a = (by_status r (apart c t.turns t.harts t.before) h x x.status).action in
    let after = apart c t.turns t.harts t.after in
    subst (λ (m : Made). Tells x.frames (hart_at m.core h).frames m.kind) (sym t.is)
    (⊎_elim (search (arith, x.frames, idle-no))
    (λ l. own-puts h x t.harts (acted r after h x a).core.harts (acted r after h x a).kind
    (subst (λ (n : ℕ). h < n) (sym t.heard.count) l) (ap (λ (y : Hart). y.frames) t.heard.own)
    (puts-acted r after h x a))
    (present r c h t.turns t.harts t.before))

-- a hart has more frames after a turn exactly where it crossed, and fewer only where it left a call
deeper-then : (before after : List Frame) (k : TurnKind) → Tells before after k → k ≡ T.Crossed →
    length before < length after
deeper-then before after k (Same e n) q = absurd (n q)
deeper-then before after k (More f e p) q = let n = length-append before (f ∷ []) in let m = ap length e in
    omega (arith, n, m)
deeper-then before after k (Less l p) q = absurd (leaving-no k p q)

crossed-then : (before after : List Frame) (k : TurnKind) → Tells before after k → length before < length after →
    k ≡ T.Crossed
crossed-then before after k (Same e n) l = absurd (let m = ap length e in let q : ⊥ = omega (arith, l, m) in q)
crossed-then before after k (More f e p) l = p
crossed-then before after k (Less m p) l = absurd (let q : ⊥ = omega (arith, l, m) in q)

left-then : (before after : List Frame) (k : TurnKind) → Tells before after k → length after < length before →
    IsLeaving k
left-then before after k (Same e n) l = absurd (let m = ap length e in let q : ⊥ = omega (arith, l, m) in q)
left-then before after k (More f e p) l =
    absurd (let n = length-append before (f ∷ []) in let m = ap length e in let q : ⊥ = omega (arith, l, n, m) in q)
left-then before after k (Less m p) l = p

pub crossed-deeper : (r : Reads) (c : Core) (h : ℕ) →
    (kind_of r c h ≡ T.Crossed) ↔ (depth_of c h < depth_of (core_after r c h) h)
crossed-deeper r c h = search (arith, tells-turned, deeper-then, crossed-then)

pub fewer-leaves : (r : Reads) (c : Core) (h : ℕ) → depth_of (core_after r c h) h < depth_of c h →
    IsLeaving (kind_of r c h)
fewer-leaves r c h l = left-then (frames_at c h) (frames_at (core_after r c h) h) (kind_of r c h) (tells-turned r c h) l
