-- A running hart's border is told by its turn: the turn's sort by its action, and what it shows.
use Rattle.std.proofs.Common.{◌≡◌, ◌↔◌, ⊎_elim, ◌⊎◌, ℕ, ◌<◌, Bool, ◌==◌, ◌||◌, nat_lt, List, [], ◌∷◌, ◌++◌, length, length-append, set}
use Rattle.std.proofs.Common.{refl, sym, ◌∙◌, ap, subst, arith, if◌then◌else◌, Option, Some, None}
use Rattle.std.specs.List.{last_or}
use Rattle.std.proofs.lemmas.Bool.{ltb-false}
use Rattle.std.proofs.lemmas.List.{get_or-set_same}
use Rattle.mx_model.specs.declared.values.Frame.{Frame}
use Rattle.mx_model.specs.declared.values.TurnKind.{TurnKind}
use Rattle.mx_model.specs.declared.values.TurnKind.TheVariants as T
use Rattle.mx_model.specs.Agreement.{Border, Trap, AtGate, Back, Call, Nothing, border}
use Rattle.mx_model.specs.Effect.{reg}
use Rattle.mx_model.specs.Gates.{below_top, top}
use Rattle.mx_model.specs.Reads.{Reads}
use Rattle.mx_model.specs.State.{Core, Hart, hart_at, module_at}
use Rattle.mx_model.specs.Turn.{Action, Rests, Waits, Serves, Asks, Traps, Bounces, Crosses, Returns, Runs, Writes, Made, acted, call_of}
use Rattle.mx_model.specs.Turn.{runs_in}
use Rattle.mx_model.proofs.KeepLaws.{keeps-hears}
use Rattle.mx_model.proofs.TurnCases.{ready}
use Rattle.mx_laws.specs.After.{core_after, domain_at, frames_at, kind_of}
use Rattle.mx_laws.specs.Twins.{IsRunning}
use Rattle.mx_laws.proofs.FrameLaws.{top-split}
use Rattle.mx_laws.proofs.TurnParts.{there}
use Rattle.mx_laws.proofs.TwinLaws.{kind-asked}
use Rattle.mx_runs.specs.Borders.{Crooked, Full, IsAtGate, IsCalling, IsGateCause, IsOfRow, NoFrame, Elsewhere, OverFrame, PassesGate}
use Rattle.mx_runs.specs.Borders.{ReturnsTo, SentBack, pc_of}
use Rattle.mx_runs.specs.Borders.{Crosses as Crossing}
use Rattle.mx_runs.specs.Denials.{register_of}
use Rattle.mx_runs.proofs.TrapLaws.{Does, does-action, traps-does}
use Rattle.mx_runs.proofs.BorderMeets.{ByCrooked, ByDead, ByFull, ByNone, ByOther, GoesOn, Leaves, Meets, Over, Passes, Through}
use Rattle.mx_runs.proofs.BorderMeets.{does-running, meets-in}

-- hart h after a turn that sets it
set-after : (r : Reads) (c : Core) (h : ℕ) (a : Action) (d : Does r c h a) (y : Hart) → IsRunning c h →
    (acted r (record (ready c h) { caches = d.caches }) h (hart_at c h) a).core.harts ≡ set (ready c h).harts h y →
    hart_at (core_after r c h) h ≡ y
set-after r c h a d y run e = search (arith, c.harts, there, ready, keeps-hears, get_or-set_same)

frames-sent : (r : Reads) (c : Core) (h : ℕ) → IsRunning c h → Does r c h Bounces →
    frames_at (core_after r c h) h ≡ frames_at c h
frames-sent r c h run d = ap (λ (y : Hart). y.frames) (set-after r c h Bounces d _ run refl)

frames-returned : (r : Reads) (c : Core) (h rd : ℕ) (f : Frame) → IsRunning c h → Does r c h (Returns rd f) →
    frames_at (core_after r c h) h ≡ below_top (frames_at c h)
frames-returned r c h rd f run d = ap (λ (y : Hart). y.frames) (set-after r c h (Returns rd f) d _ run refl)

domain-crossed : (r : Reads) (c : Core) (h target : ℕ) → IsRunning c h → Does r c h (Crosses target) →
    domain_at (core_after r c h) h ≡ target
domain-crossed r c h target run d = ap (λ (y : Hart). y.domain) (set-after r c h (Crosses target) d _ run refl)

-- from a row to the sort of the turn
module _ (r : Reads) (c : Core) (h : ℕ) (run : IsRunning c h) (a : Action) (d : Does r c h a) where
  abbrev own : Hart
  own = hart_at c h

  row-passes : (target : ℕ) → Passes (module_at c target).dead own target a → PassesGate r c h target
  row-passes target (ByCrooked e n) = Crooked n ((traps-does r c h a 19 (reg own.regs 1) d).1 e)
  row-passes target (ByDead e n) = search (arith, does-action, frames-sent)
  row-passes target (ByFull e n) = Full n ((traps-does r c h a 16 own.pc d).1 e)
  row-passes target (Through e) =
      let k = does-action r c h a (Crosses target) e d in
      Crossing (ap (λ (m : Made). m.kind) k.is) (domain-crossed r c h target run k)

  row-leaves : (target : ℕ) → Leaves own target a → ReturnsTo r c h target
  row-leaves target (ByNone e n) = NoFrame n ((traps-does r c h a 18 target d).1 e)
  row-leaves target (ByOther f e t n) =
      Elsewhere (below_top own.frames) f (top-split own.frames f t) n ((traps-does r c h a 17 target d).1 e)
  row-leaves target (Over rd f e t b) =
      let k = does-action r c h a (Returns rd f) e d in
      OverFrame f (ap (λ (m : Made). m.kind) k.is)
      (top-split own.frames f t ∙ ap (λ (fs : List Frame). fs ++ f ∷ []) (sym (frames-returned r c h rd f run k))) b

  kind-asks : a ≡ Asks (call_of h own) → kind_of r c h ≡ T.Called
  kind-asks e = search (arith, does-action, own, ready, kind-asked)

  kind-goes : GoesOn a → kind_of r c h ≡ T.Ran
  kind-goes x = grind (arith, does-action)

  row-meets : (k : Border) → Meets c h own k a → IsOfRow r c h k
  row-meets (Trap cause value) m = ((traps-does r c h a cause value d).1 m.0, m.1)
  row-meets (AtGate word target x1) m = search (arith, row-passes)
  row-meets (Back pc target) m = (m.0, row-leaves target m.1)
  row-meets (Call number a0 a1 a2 a3) m = search (arith, kind-asks)
  row-meets Nothing m = kind-goes m

-- a turn's sort as a number, by its action, and a border's
abbrev cause_sort : ℕ → ℕ
cause_sort cause =
    if nat_lt cause 16 then 0 else if nat_lt 19 cause then 0 else if (cause == 16) || (cause == 19) then 1 else 2

abbrev sort : Action → ℕ
sort (Traps cause value) = cause_sort cause
sort Bounces = 1
sort (Crosses target) = 1
sort (Returns rd frame) = 2
sort (Serves call) = 3
sort (Asks call) = 3
sort (Runs regs pc) = 4
sort (Writes address size value) = 4
sort Rests = 5
sort Waits = 6

abbrev row_of : Border → ℕ
row_of (Trap cause value) = 0
row_of (AtGate word target x1) = 1
row_of (Back pc target) = 2
row_of (Call number a0 a1 a2 a3) = 3
row_of Nothing = 4

sort-by : (cause : ℕ) (b d : Bool) → nat_lt cause 16 ≡ b → nat_lt 19 cause ≡ d → (IsGateCause cause → ⊥) →
    ◌≡◌ {A = ℕ} (if b then 0 else if d then 0 else if (cause == 16) || (cause == 19) then 1 else 2) 0
sort-by cause x d e f n = grind (arith, ltb-false)

sort-trap : (cause : ℕ) → (IsGateCause cause → ⊥) → cause_sort cause ≡ 0
sort-trap cause n = sort-by cause (nat_lt cause 16) (nat_lt 19 cause) refl refl n

-- the frame that an action gives up is the top one
abbrev over_of : Action → Option Frame
over_of (Returns rd frame) = Some frame
over_of a = None

abbrev IsProper : Hart → Action → Type 0
IsProper x a = (over_of a ≡ None) ⊎ (over_of a ≡ top x.frames)

module _ (c : Core) (h : ℕ) (x : Hart) (a : Action) where
  sort-passes : (target : ℕ) → Passes (module_at c target).dead x target a → sort a ≡ 1
  sort-passes target x = grind (arith, sort)

  sort-leaves : (target : ℕ) → Leaves x target a → sort a ≡ 2
  sort-leaves target x = grind (arith, sort)

  sort-goes : GoesOn a → sort a ≡ 4
  sort-goes x = grind (arith, sort)

  sort-meets : (k : Border) → Meets c h x k a → sort a ≡ row_of k
  sort-meets x m = search (arith, sort, sort-trap, sort-passes, sort-leaves, sort-goes)

  proper-passes : (target : ℕ) → Passes (module_at c target).dead x target a → IsProper x a
  proper-passes target x = grind (arith, over_of)

  proper-leaves : (target : ℕ) → Leaves x target a → IsProper x a
  proper-leaves target x = grind (arith, over_of)

  proper-goes : GoesOn a → IsProper x a
  proper-goes x = grind (arith, over_of)

  proper-meets : (k : Border) → Meets c h x k a → IsProper x a
  proper-meets x m = grind (arith, over_of, proper-passes, proper-leaves, proper-goes)

-- the kind of a turn by its action, and the actions of a kind
abbrev kind_by : Action → TurnKind
kind_by Rests = T.Idle
kind_by Waits = T.Waited
kind_by (Serves call) = T.Called
kind_by (Asks call) = T.Called
kind_by (Traps cause value) = T.Trapped
kind_by Bounces = T.Returned
kind_by (Crosses target) = T.Crossed
kind_by (Returns rd frame) = T.Returned
kind_by (Runs regs pc) = T.Ran
kind_by (Writes address size value) = T.Ran

kind-by : (r : Reads) (c : Core) (h : ℕ) (x : Hart) (a : Action) → (acted r c h x a).kind ≡ kind_by a
kind-by r c h x x1 = grind (arith, kind-asked)

-- the sort of a turn of a kind that has one
abbrev kind_sort : TurnKind → ℕ
kind_sort T.Crossed = 1
kind_sort T.Called = 3
kind_sort T.Ran = 4
kind_sort k = 0

sort-kind : (a : Action) (k : TurnKind) → kind_by a ≡ k → 0 < kind_sort k → sort a ≡ kind_sort k
sort-kind x k e l = grind (arith, kind_sort)

data ComesBack (a : Action) : Type 0 where
  Sent : a ≡ Bounces → ComesBack a
  Given : (rd : ℕ) (f : Frame) → a ≡ Returns rd f → ComesBack a

comes-back : (a : Action) → kind_by a ≡ T.Returned → ComesBack a
comes-back Bounces e = Sent refl
comes-back (Returns rd f) e = Given rd f refl
comes-back Rests e = absurd (cc)
comes-back Waits e = absurd (cc)
comes-back (Serves call) e = absurd (cc)
comes-back (Asks call) e = absurd (cc)
comes-back (Traps cause value) e = absurd (cc)
comes-back (Crosses target) e = absurd (cc)
comes-back (Runs regs pc) e = absurd (let z : ⊥ = cc in z)
comes-back (Writes address size value) e = absurd (let z : ⊥ = cc in z)

-- frames are not themselves with one more
one-more : (fs : List Frame) (f : Frame) → fs ≡ fs ++ f ∷ [] → ⊥
one-more fs f e =
    let n : length fs ≡ length (fs ++ f ∷ []) = ap length e in
    let m = length-append fs (f ∷ []) in
    let z : ⊥ = omega (arith, n, m) in
    z

last-more : (fs : List Frame) (f : Frame) (o : Option Frame) → last_or o (fs ++ f ∷ []) ≡ Some f
last-more [] f o = refl
last-more (g ∷ gs) f o = last-more gs f (Some g)

-- from the sort of the turn to a row
module _ (r : Reads) (c : Core) (h : ℕ) (run : IsRunning c h) (a : Action) (d : Does r c h a)
    (p : IsProper (hart_at c h) a) where
  abbrev it : Hart
  it = hart_at c h

  kind-is : kind_of r c h ≡ kind_by a
  kind-is = ap (λ (m : Made). m.kind) d.is ∙ kind-by r (record (ready c h) { caches = d.caches }) h it a

  of-kind : (k : TurnKind) → kind_of r c h ≡ k → 0 < kind_sort k → sort a ≡ kind_sort k
  of-kind k e l = sort-kind a k (sym kind-is ∙ e) l

  over-top : (f : Frame) → over_of a ≡ Some f → top it.frames ≡ Some f
  over-top f e = ⊎_elim (λ n. absurd (cc)) (λ t. sym t ∙ e) p

  -- an action that gives up a frame leaves fewer
  fewer : (rd : ℕ) (f : Frame) → a ≡ Returns rd f → frames_at (core_after r c h) h ≡ frames_at c h → ⊥
  fewer rd f e same =
      let k = does-action r c h a (Returns rd f) e d in
      let split = top-split it.frames f (over-top f (ap over_of e)) in
      one-more it.frames f (cc (split, frames-returned r c h rd f run k, same))

  -- one that doesn't leaves as many
  as-many : (f : Frame) → a ≡ Bounces → frames_at c h ≡ frames_at (core_after r c h) h ++ f ∷ [] → ⊥
  as-many f e more =
      let k = does-action r c h a Bounces e d in
      one-more it.frames f (more ∙ ap (λ (fs : List Frame). fs ++ f ∷ []) (frames-sent r c h run k))

  sort-sent : ComesBack a → frames_at (core_after r c h) h ≡ frames_at c h → sort a ≡ 1
  sort-sent x same = grind (arith, sort, fewer)

  sort-given : (f : Frame) → ComesBack a → frames_at c h ≡ frames_at (core_after r c h) h ++ f ∷ [] → sort a ≡ 2
  sort-given f x more = grind (arith, as-many, sort)

  sort-gate : (target : ℕ) → PassesGate r c h target → sort a ≡ 1
  sort-gate target (Crooked n t) = ap sort ((traps-does r c h a 19 (register_of c h 1) d).0 t)
  sort-gate target (SentBack n k same) = sort-sent (comes-back a (sym kind-is ∙ k)) same
  sort-gate target (Full n t) = ap sort ((traps-does r c h a 16 (pc_of c h) d).0 t)
  sort-gate target (Crossing k into) = of-kind T.Crossed k (omega arith)

  sort-return : (target : ℕ) → ReturnsTo r c h target → sort a ≡ 2
  sort-return target x = search (arith, sort, traps-does, sort-given, comes-back, kind-is)

  sort-row : (b : Border) → IsOfRow r c h b → sort a ≡ row_of b
  sort-row (Trap cause value) q = ap sort ((traps-does r c h a cause value d).0 q.0) ∙ sort-trap cause q.1
  sort-row (AtGate word target x1) q = sort-gate target q.passes
  sort-row (Back pc target) q = sort-return target q.1
  sort-row (Call number a0 a1 a2 a3) q = of-kind T.Called q.kind (omega arith)
  sort-row Nothing q = of-kind T.Ran q (omega arith)

  -- the target of a return
  abbrev target_of : Action → ℕ
  target_of (Traps cause value) = value
  target_of (Returns rd f) = f.back
  target_of k = 0

  target-leaves : (target : ℕ) → Leaves it target a → target_of a ≡ target
  target-leaves target x = grind (arith, target_of)

  same-frame : (f g : Frame) → Some f ≡ Some g → f ≡ g
  same-frame f g e = cc

  target-given : (target : ℕ) (f : Frame) → ComesBack a → frames_at c h ≡ frames_at (core_after r c h) h ++ f ∷ [] →
      f.back ≡ target →
      target_of a ≡ target
  target-given target f x more b = grind (arith, as-many, over-top, over_of, last-more, target_of, same-frame)

  target-return : (target : ℕ) → ReturnsTo r c h target → target_of a ≡ target
  target-return target (NoFrame n t) = ap target_of ((traps-does r c h a 18 target d).0 t)
  target-return target (Elsewhere below f k n t) = ap target_of ((traps-does r c h a 17 target d).0 t)
  target-return target (OverFrame f k more b) = target-given target f (comes-back a (sym kind-is ∙ k)) more b

  -- the border of a fault
  abbrev border_by : Action → Border
  border_by (Traps cause value) = Trap cause value
  border_by k = Nothing

  one-trap : (cause value : ℕ) (k : Border) → Meets c h it k a → row_of k ≡ 0 → a ≡ Traps cause value →
      k ≡ Trap cause value
  one-trap cause value x m n e = grind (arith, border_by)

  same-number : (u v : ℕ) → Some u ≡ Some v → u ≡ v
  same-number u v e = cc

  one-gate : (word target x1 : ℕ) (k : Border) → Meets c h it k a → row_of k ≡ 1 → IsAtGate r c h word target x1 →
      k ≡ AtGate word target x1
  one-gate word target x1 x m n q = grind (arith, same-number)

  one-return : (pc target : ℕ) (k : Border) → Meets c h it k a → row_of k ≡ 2 → pc_of c h ≡ pc →
      ReturnsTo r c h target → k ≡ Back pc target
  one-return pc target (Back p t) m n e q =
      let leads : t ≡ target = sym (target-leaves t m.1) ∙ target-return target q in
      cc
  one-return pc target (Trap u v) m n e q = absurd ((omega (arith, n)))
  one-return pc target (AtGate w t x) m n e q = absurd (let z : ⊥ = omega (arith, n) in z)
  one-return pc target (Call number a0 a1 a2 a3) m n e q = absurd (let z : ⊥ = omega (arith, n) in z)
  one-return pc target Nothing m n e q = absurd (let z : ⊥ = omega (arith, n) in z)

  one-call : (number a0 a1 a2 a3 : ℕ) (k : Border) → Meets c h it k a → row_of k ≡ 3 →
      IsCalling r c h number a0 a1 a2 a3 → k ≡ Call number a0 a1 a2 a3
  one-call number a0 a1 a2 a3 x m n q = grind arith

  one-nothing : (k : Border) → row_of k ≡ 4 → k ≡ Nothing
  one-nothing x n = grind arith

  one-row : (k b : Border) → Meets c h it k a → row_of k ≡ row_of b → IsOfRow r c h b → k ≡ b
  one-row k (Trap cause value) m n q = one-trap cause value k m n ((traps-does r c h a cause value d).0 q.0)
  one-row k (AtGate word target x1) m n q = one-gate word target x1 k m n q
  one-row k (Back pc target) m n q = one-return pc target k m n q.0 q.1
  one-row k (Call number a0 a1 a2 a3) m n q = one-call number a0 a1 a2 a3 k m n q
  one-row k Nothing m n q = one-nothing k n

pub border-tells : (r : Reads) (c : Core) (h : ℕ) → IsRunning c h → (b : Border) → (border r c h ≡ b) ↔ IsOfRow r c h b
border-tells r c h run b =
    let x = hart_at c h in
    let a = (runs_in r (ready c h) h x (module_at c x.domain).dead).action in
    let d = does-running r c h run in
    let m : Meets c h x (border r c h) a = meets-in r c h x (module_at c x.domain).dead in (
      λ e. row-meets r c h run a d b (subst (λ (k : Border). Meets c h x k a) e m),
      λ q.
          let p = proper-meets c h x a (border r c h) m in
          cc (one-row r c h run a d p (border r c h) b m (sym (sort-meets c h x a (border r c h) m) ∙ sort-row r c h run a d p b q) q),
    )
