-- A turn keeps its hart's frames, pushes one, or gives up the top one and goes on as that one holds; other harts' frames stay.
use Rattle.std.proofs.Common.{◌≡◌, ◌≢◌, ℕ, ◌-◌, ◌<◌, Bool, true, false, not, cond, ◌==◌, ◌&&◌, ◌||◌, List, [], ◌∷◌, ◌++◌, length, get_or}
use Rattle.std.proofs.Common.{set, take, fold, refl, sym, ◌∙◌, ap, subst, arith, eq-eqb, Option, Some, None, unwrap_or, ⊎_elim, rules}
use Rattle.std.proofs.Common.{map as list_map}
use Rattle.std.specs.Prelude.{IfSome, slice_set, zip}
use Rattle.std.specs.List.{AllByRecursion, list_any, last_or}
use Rattle.std.proofs.lemmas.List.{length-set, get_or-set_same, get_or-set_other}
use Rattle.mx_words.specs.Hearing.{nobody}
use Rattle.mx_model.specs.declared.values.Call.{Call}
use Rattle.mx_model.specs.declared.values.Frame.{Frame}
use Rattle.mx_model.specs.Effect.{next, reg, written}
use Rattle.mx_model.specs.Gates.{top, below_top, nearest}
use Rattle.mx_model.specs.Reads.{Reads}
use Rattle.mx_model.specs.Serve.{Served, serve}
use Rattle.mx_model.specs.State.{Core, Hart, Running, Waiting, Halted, no_hart, hart_at, module_at, with_module}
use Rattle.mx_model.specs.Turn.{Action, Rests, Waits, Serves, Asks, Traps, Bounces, Crosses, Returns, Runs, Writes, Made, acted, answered}
use Rattle.mx_model.specs.Turn.{asked, by_status, done, fault_answer, given_up, halted, is_served_now, killed, restored, saved}
use Rattle.mx_model.specs.Turn.{saved_registers, stack_address, turned, with_regs}
use Rattle.mx_model.specs.Valid.{IsFrame, IsValid}
use Rattle.mx_model.proofs.ListLaws.{all-last}
use Rattle.mx_laws.specs.Crossing.{frame_of, FramesAfter, Stay, OneMore, OneLess}
use Rattle.mx_laws.proofs.CallWalk.{CallLeaves, served-walk}
use Rattle.mx_laws.proofs.Lawful.{IsLawful, AnyCall, OwnCall, lawful-any, lawful-turn, present}
use Rattle.mx_laws.proofs.TurnParts.{apart, by-action}

-- the list with its last element after it
last-split : (x f : Frame) (xs : List Frame) → last_or (Some x) xs ≡ Some f → (x ∷ xs) ≡ take (length xs) (x ∷ xs) ++ f ∷ []
last-split x f [] e = ap (λ (o : Option Frame). unwrap_or o f ∷ []) e
last-split x f (y ∷ ys) e = ap (λ (zs : List Frame). x ∷ zs) (last-split y f ys e)

pub top-split : (frames : List Frame) (f : Frame) → top frames ≡ Some f → frames ≡ below_top frames ++ f ∷ []
top-split [] f e = absurd (let q : ⊥ = cc in q)
top-split (x ∷ xs) f e =
    let n : length (x ∷ xs) - 1 ≡ length xs = omega arith in
    last-split x f xs e ∙ ap (λ (k : ℕ). take k (x ∷ xs) ++ f ∷ []) (sym n)

-- registers put back
abbrev put_back : List ℕ → List ℕ → List ℕ → List ℕ
put_back regs ns ks = fold (λ rs (p : ℕ × ℕ). slice_set rs p.0 p.1) regs (zip ns ks)

other-any : (n m : ℕ) (ns : List ℕ) → list_any (λ i. i == n) (m ∷ ns) ≡ false → (n ≢ m) × (list_any (λ i. i == n) ns ≡ false)
other-any n m ns e = elim (m == n) as (λ b. (m == n) ≡ b → b || list_any (λ i. i == n) ns ≡ false
    → (n ≢ m) × (list_any (λ i. i == n) ns ≡ false)) [
      | true ↦ λ t f. absurd (let q : ⊥ = cc in q)
      | false ↦ λ t f. (λ s. let k : (m == n) ≡ true = eq-eqb m n (sym s) in let q : ⊥ = cc in q, f)
    ] refl e

put-other : (regs ns ks : List ℕ) (n : ℕ) → list_any (λ i. i == n) ns ≡ false → get_or (put_back regs ns ks) n 0 ≡ get_or regs n 0
put-other regs [] ks n e = refl
put-other regs (m ∷ ms) [] n e = refl
put-other regs (m ∷ ms) (k ∷ ks) n e =
    let p = other-any n m ms e in put-other (set regs m k) ms ks n p.1 ∙ get_or-set_other regs m n k 0 p.0

-- distinct registers of a list
abbrev AreDistinct : ℕ → List ℕ → Type 0
AreDistinct count [] = Unit {0}
AreDistinct count (n ∷ ns) = (n < count) × (list_any (λ i. i == n) ns ≡ false) × AreDistinct count ns

put-all : (regs ns ks : List ℕ) → AreDistinct (length regs) ns → length ks ≡ length ns → list_map (reg (put_back regs ns ks)) ns ≡ ks
put-all regs [] [] d e = refl
put-all regs [] (k ∷ ks) d e = absurd (let q : ⊥ = omega (arith, e) in q)
put-all regs (n ∷ ns) [] d e = absurd (let q : ⊥ = omega (arith, e) in q)
put-all regs (n ∷ ns) (k ∷ ks) d e =
    let after = put_back (set regs n k) ns ks in
    let first : get_or after n 0 ≡ k = put-other (set regs n k) ns ks n d.1 ∙ get_or-set_same regs n k 0 d.0 in
    let rest : list_map (reg after) ns ≡ ks =
    put-all (set regs n k) ns ks (subst (λ (c : ℕ). AreDistinct c ns) (sym (length-set regs n k)) d.2) (omega (arith, e)) in
    ap (λ (v : ℕ). v ∷ list_map (reg after) ns) first ∙ ap (λ (vs : List ℕ). k ∷ vs) rest

saved-distinct : AreDistinct 32 saved_registers
saved-distinct = search rules

pub saved-restored : (regs kept : List ℕ) → length regs ≡ 32 → length kept ≡ 15 → saved (restored regs kept) ≡ kept
saved-restored regs kept e f = put-all regs saved_registers kept (subst (λ (n : ℕ). AreDistinct n saved_registers) (sym e) saved-distinct) f

-- a served call leaves the harts
pub harts-leaves : (r : Reads) (c : Core) (call : Call) → CallLeaves r c call (λ (e : Core). e.harts ≡ c.harts)
harts-leaves r c call = record {
  caches = λ e caches p. p;
  none = refl;
  modules = λ modules. refl;
  gates = λ gates. refl;
  exchange = λ a. refl;
  alloc = λ s first a. refl;
}

pub harts-serve : (r : Reads) (c : Core) (call : Call) → (serve r c call).core.harts ≡ c.harts
harts-serve r c call = served-walk r c call (λ (e : Core). e.harts ≡ c.harts) (harts-leaves r c call)

pub harts-killed : (d cause : ℕ) (c : Core) → (killed d cause c).harts ≡ c.harts
harts-killed d cause c = elim ((module_at c d).kills && not (cause == 20)) as (λ b.
    (cond b (with_module d (record (module_at c d) { dead = true }) c) c).harts ≡ c.harts) [
      | true ↦ refl
      | false ↦ refl
    ]

-- hart h after its action: as it is, or set to a hart with such a property
data IsSet (old new : List Hart) (h : ℕ) (Y : Hart → Type 0) : Type 0 where
  Left : new ≡ old → IsSet old new h Y
  Set : (y : Hart) → new ≡ set old h y → Y y → IsSet old new h Y

set-done : (h : ℕ) (x : Hart) (s : Served) (old : List Hart) (Y : Hart → Type 0) → s.core.harts ≡ old
    → ((y : Hart) → y.frames ≡ x.frames → Y y) →
    IsSet old (done h x s).core.harts h Y
set-done h x s old Y e k =
    let y : Hart = record x { status = Halted (Some s.a0) } in
    let z : Hart = record x { regs = answered x s.a0 s.a1; pc = next x.pc; status = Running } in
    elim s.stop as (λ b. IsSet old (cond b (halted h x (Some s.a0) s.core) (with_regs h x (answered x s.a0 s.a1) (next x.pc) s.core)).harts
    h Y) [
      | true ↦ Set y (ap (λ (hs : List Hart). set hs h y) e) (k y refl)
      | false ↦ Set z (ap (λ (hs : List Hart). set hs h z) e) (k z refl)
    ]

set-asked : (r : Reads) (c : Core) (h : ℕ) (x : Hart) (call : Call) (Y : Hart → Type 0) → ((y : Hart) → y.frames ≡ x.frames → Y y)
    → (b : Bool) →
    IsSet c.harts (asked r c h x call b).core.harts h Y
set-asked r c h x call Y k true = set-done h x (serve r c call) c.harts Y (harts-serve r c call) k
set-asked r c h x call Y k false = let y : Hart = record x { status = Waiting call nobody } in Set y refl (k y refl)

-- the hart over a frame
abbrev pub over : Hart → Frame → List ℕ → Hart
over x f regs = record x { regs = restored regs f.kept; pc = f.back; domain = f.caller; frames = below_top x.frames; status = Running }

-- what is to be shown of the hart that an action sets: frames as they were, one more, and one less
record Frames (x : Hart) (Y : Hart → Type 0) : Type 0 where
  stay : (y : Hart) → y.frames ≡ x.frames → Y y
  more : (y : Hart) → y.frames ≡ x.frames ++ frame_of x ∷ [] → Y y
  less : (f : Frame) (regs : List ℕ) → top x.frames ≡ Some f → length regs ≡ length x.regs → Y (over x f regs)

set-given_up : (c : Core) (h : ℕ) (x : Hart) (cause : ℕ) (old : List Hart) (Y : Hart → Type 0) → Frames x Y → c.harts ≡ old
    → (o : Option Frame) →
    top x.frames ≡ o → IsSet old (given_up c h x cause o).harts h Y
set-given_up c h x cause old Y k e None t =
    let y : Hart = record x { status = Halted None } in Set y (ap (λ (hs : List Hart). set hs h y) e) (k.stay y refl)
set-given_up c h x cause old Y k e (Some f) t =
    let regs = slice_set x.regs 10 (fault_answer cause) in
    Set (over x f regs) (ap (λ (hs : List Hart). set hs h (over x f regs)) e) (k.less f regs t (length-set x.regs 10 (fault_answer cause)))

length-written : (regs : List ℕ) (rd v : ℕ) → length (written regs rd v) ≡ length regs
length-written regs rd v = elim (rd == 0) as (λ b. length (cond b regs (slice_set regs rd v)) ≡ length regs) [
  | true ↦ refl
  | false ↦
      length-set regs rd v
]

-- hart x with other registers and another pc
abbrev pub going : Hart → List ℕ → ℕ → Hart
going x regs pc = record x { regs = regs; pc = pc; status = Running }

set-acted : (V : Call → Type 0) (r : Reads) (c d : Core) (h : ℕ) (x : Hart) (Y : Hart → Type 0) → Frames x Y → (a : Action)
    → IsLawful V r d h x a →
    IsSet c.harts (acted r c h x a).core.harts h Y
set-acted V r c d h x Y k Rests p = Left refl
set-acted V r c d h x Y k Waits p = Left refl
set-acted V r c d h x Y k (Serves call) p = set-done h x (serve r c call) c.harts Y (harts-serve r c call) k.stay
set-acted V r c d h x Y k (Asks call) p = set-asked r c h x call Y k.stay (is_served_now c h call)
set-acted V r c d h x Y k (Traps cause value) p =
    set-given_up (killed x.domain cause c) h x cause c.harts Y k (harts-killed x.domain cause c) (top x.frames) refl
set-acted V r c d h x Y k Bounces p =
    let y = going x (slice_set x.regs 10 (fault_answer 20)) (reg x.regs 1) in Set y refl (k.stay y refl)
set-acted V r c d h x Y k (Crosses target) p =
    let y : Hart = record x {
      regs = slice_set x.regs 2 (unwrap_or (nearest x.frames target) (stack_address c target h));
      domain = target;
      frames = x.frames ++ frame_of x ∷ [];
      status = Running;
    } in Set y refl (k.more y refl)
set-acted V r c d h x Y k (Returns rd frame) p =
    let regs = written x.regs rd (next x.pc) in Set (over x frame regs) refl (k.less frame regs p (length-written x.regs rd (next x.pc)))
set-acted V r c d h x Y k (Runs regs pc) p = let y = going x regs pc in Set y refl (k.stay y refl)
set-acted V r c d h x Y k (Writes address size value) p = let y = going x x.regs (next x.pc) in Set y refl (k.stay y refl)

-- frames of hart h
frames-own : (x : Hart) → length x.regs ≡ 32 → ((f : Frame) → top x.frames ≡ Some f → length f.kept ≡ 15) → Frames x (FramesAfter x)
frames-own x n k = record {
  stay = λ y e. Stay e;
  more = λ y e. OneMore e;
  less = λ f regs t e. OneLess f (top-split x.frames f t)
      (record { pc = refl; domain = refl; registers = saved-restored regs f.kept (e ∙ n) (k f t) });
}

top-kept : (modules : ℕ) (frames : List Frame) (f : Frame) → AllByRecursion (IsFrame modules) frames → top frames ≡ Some f
    → length f.kept ≡ 15
top-kept modules frames f p e =
    let q : IfSome (top frames) (IsFrame modules) = all-last (IsFrame modules) frames None p tt in
    let s : IsFrame modules f = subst (λ (o : Option Frame). IfSome o (IsFrame modules)) e q in s.count

-- the hart at its place
own-set : (c : Core) (h : ℕ) (x : Hart) (old new : List Hart) → h < length old → (get_or old h no_hart).frames ≡ x.frames →
    IsSet old new h (FramesAfter x) → FramesAfter x (get_or new h no_hart)
own-set c h x old new l e (Left n) = Stay (ap (λ (hs : List Hart). (get_or hs h no_hart).frames) n ∙ e)
own-set c h x old new l e (Set y n p) =
    subst (FramesAfter x) (sym (ap (λ (hs : List Hart). get_or hs h no_hart) n ∙ get_or-set_same old h y no_hart l)) p

pub frames-turned : (r : Reads) (c : Core) (h : ℕ) → IsValid c → FramesAfter (hart_at c h) (hart_at (turned r c h).core h)
frames-turned r c h v =
    let t = by-action r c h in
    let x = hart_at c h in
    let a = (by_status r (apart c t.turns t.harts t.before) h x x.status).action in
    let after = apart c t.turns t.harts t.after in
    let same : (get_or t.harts h no_hart).frames ≡ x.frames = ap (λ (y : Hart). y.frames) t.heard.own in
    subst (λ (m : Made). FramesAfter x (hart_at m.core h)) (sym t.is)
    (⊎_elim (λ e. subst (λ (b : Action). FramesAfter x (hart_at (acted r after h x b).core h)) (sym e) (Stay same))
    (λ l. let valid = v.harts h l in
    own-set c h x t.harts (acted r after h x a).core.harts (subst (λ (n : ℕ). h < n) (sym t.heard.count) l) same
    (set-acted (OwnCall h x) r after c h x (FramesAfter x) (frames-own x valid.regs.count (λ f e.
    top-kept (length c.modules) x.frames f valid.frames e)) a
    (lawful-turn r c h t.turns t.harts t.before v)))
    (present r c h t.turns t.harts t.before))

-- another hart
frames-any : (x : Hart) → Frames x (λ (y : Hart). Unit {0})
frames-any x = record { stay = λ y e. tt; more = λ y e. tt; less = λ f regs t e. tt }

other-set : (h g : ℕ) (old new : List Hart) → g ≢ h → IsSet old new h (λ (y : Hart). Unit {0})
    → (get_or new g no_hart).frames ≡ (get_or old g no_hart).frames
other-set h g old new n (Left e) = ap (λ (hs : List Hart). (get_or hs g no_hart).frames) e
other-set h g old new n (Set y e p) =
    ap (λ (hs : List Hart). (get_or hs g no_hart).frames) e ∙ ap (λ (x : Hart). x.frames) (get_or-set_other old h g y no_hart n)

pub frames-others : (r : Reads) (c : Core) (h g : ℕ) → g ≢ h → (hart_at (turned r c h).core g).frames ≡ (hart_at c g).frames
frames-others r c h g n =
    let t = by-action r c h in
    let x = hart_at c h in
    let a = (by_status r (apart c t.turns t.harts t.before) h x x.status).action in
    let after = apart c t.turns t.harts t.after in
    ap (λ (m : Made). (hart_at m.core g).frames) t.is
    ∙ other-set h g t.harts (acted r after h x a).core.harts n
    (set-acted AnyCall r after c h x (λ (y : Hart). Unit {0}) (frames-any x) a (lawful-any r c h t.turns t.harts t.before))
    ∙ sym (t.heard.others g).frames
