-- Twin turns: one border, one store, and agreement afterwards.
use Rattle.std.proofs.Common.{◌≡◌, ◌≢◌, ◌↔◌, ℕ, ◌-◌, ◌<◌, ◌≤◌, Bool, true, false, List, length, get_or, set, refl, sym, ◌∙◌, ap, subst}
use Rattle.std.proofs.Common.{arith, lit≤, if◌then◌else◌, None, ⊎_elim}
use Rattle.std.proofs.lemmas.List.{get_or-set_same, get_or-set_other}
use Rattle.mx_words.specs.Bytes.{put_at, IsSize}
use Rattle.mx_words.specs.Caches.{Cache}
use Rattle.mx_words.specs.Ranges.{ram_base}
use Rattle.mx_model.specs.declared.values.Call.{Call}
use Rattle.mx_model.specs.declared.values.Frame.{Frame}
use Rattle.mx_model.specs.declared.values.TurnKind.TheVariants as T
use Rattle.mx_model.specs.Agreement.{Border, Ended, Nothing, border, border_in, standing}
use Rattle.mx_model.specs.Checks.{is_halted, is_ready}
use Rattle.mx_model.specs.Effect.{next}
use Rattle.mx_model.specs.Reads.{Reads}
use Rattle.mx_model.specs.State.{Core, Hart, Status, Running, Waiting, Halted, no_hart, hart_at, module_at}
use Rattle.mx_model.specs.Turn.{Action, Rests, Waits, Serves, Asks, Traps, Bounces, Crosses, Returns, Runs, Writes, Made, acted, asked}
use Rattle.mx_model.specs.Turn.{by_status, is_served_now, runs_in, turned}
use Rattle.mx_laws.specs.Twins.{IsRunning, AreTwins, AreFreeTwins, Store, stored, MakeOneStore}
use Rattle.mx_laws.proofs.Walk.{same-self, Leaves, IsPassing, Stopped, SentBack, Passed, IsReturning, Refused, Returned, walk}
use Rattle.mx_laws.proofs.TurnParts.{IsAlike, TurnsBy, apart, by-action, there}
use Rattle.mx_laws.proofs.ReadLaws.{same-readings, other-hart}

-- an action that an instruction makes without a border, and the store that it makes
abbrev IsRun : Action → Type 0
IsRun (Runs regs pc) = Unit {0}
IsRun (Writes address size value) = Unit {0}
IsRun action = ⊥

abbrev pub store_of : Action → Store
store_of (Writes address size value) = record { place = address - ram_base; size = size; value = value }
store_of action = record { place = 0; size = 0; value = 0 }

-- two borders are one; where it is nothing, and nowhere else, the action runs, and it is the same
record AreOne (k : Border) (a : Action) (l : Border) (b : Action) : Type 0 where
  border : k ≡ l
  same : k ≡ Nothing → a ≡ b
  runs : k ≡ Nothing → IsRun a
  only : IsRun a → k ≡ Nothing
  few : k ≡ Nothing → (store_of a).size ≤ 4

passing-stops : (a : Action) → IsPassing a → IsRun a → ⊥
passing-stops a (Stopped cause value) q = q
passing-stops a SentBack q = q
passing-stops a (Passed target) q = q

returning-stops : (x : Hart) (a : Action) → IsReturning x a → IsRun a → ⊥
returning-stops x a (Refused cause value) q = q
returning-stops x a (Returned rd frame p) q = q

size-few : (size : ℕ) → IsSize size → size ≤ 4
size-few size s = ⊎_elim (λ e. let q : size ≤ 4 = omega (arith, e) in q)
    (⊎_elim (λ e. let q : size ≤ 4 = omega (arith, e) in q) (λ e. let q : size ≤ 4 = omega (arith, e) in q)) s

-- a border that isn't nothing
stopped : (k : Border) (a b : Action) → (k ≡ Nothing → ⊥) → (IsRun a → ⊥) → AreOne k a k b
stopped k a b n m = record {
  border = refl;
  same = λ e. absurd (n e);
  runs = λ e. absurd (n e);
  only = λ p. absurd (m p);
  few = λ e.
      absurd (n e);
}

one-leaves : (r : Reads) (c : Core) (h : ℕ) (x : Hart) (fs : List Frame) (st : Status) → Leaves r c h x fs st AreOne
one-leaves r c h x fs st = record {
  trap = λ cause value. stopped _ _ _ (λ e. let q : ⊥ = cc in q) (λ p. p);
  gate = λ word target x1 a b p q. stopped _ a b (λ e. let q : ⊥ = cc in q) (passing-stops a p);
  back = λ target a b p q. stopped _ a b (λ e. let q : ⊥ = cc in q) (returning-stops x a p);
  call = stopped _ _ _ (λ e. let q : ⊥ = cc in q) (λ p. p);
  run = λ regs pc. record { border = refl; same = λ e. refl; runs = λ e. tt; only = λ p. refl; few = λ e. lit≤ tt };
  write = λ address size value s a n. record {
    border = refl;
    same = λ e. refl;
    runs = λ e. tt;
    only = λ p. refl;
    few = λ e.
        size-few size s;
  };
}

-- what a running hart does in a state
abbrev pub action_in : Reads → Core → ℕ → Hart → Action
action_in r c h x = (runs_in r c h x (module_at c x.domain).dead).action

abbrev border_at : Reads → Core → Hart → Border
border_at r c x = border_in r c x (module_at c x.domain).dead

-- of twins
one-twins : (r : Reads) (c : Core) (q : Reads) (e : Core) (h : ℕ) → AreTwins r c q e h →
    AreOne (border r c h) (action_in r c h (hart_at c h)) (border q e h) (action_in q e h (hart_at e h))
one-twins r c q e h t =
    subst (λ (y : Hart). AreOne (border r c h) (action_in r c h (hart_at c h)) (border_at q e y) (action_in q e h y))
    (sym (other-hart r c q e h t))
    (walk r c q e h (hart_at c h) (hart_at e h).frames (hart_at e h).status AreOne (same-readings r c q e h t)
    (one-leaves r c h (hart_at c h) (hart_at e h).frames (hart_at e h).status))

pub border-twins : (r q : Reads) (c e : Core) (h : ℕ) → AreTwins r c q e h → border r c h ≡ border q e h
border-twins r q c e h t = (one-twins r c q e h t).border

-- of the state in which a hart's turn is decided and of that before
one-apart : (r : Reads) (c : Core) (h turns : ℕ) (harts : List Hart) (caches : List Cache) (x : Hart) →
    AreOne (border_at r (apart c turns harts caches) x) (action_in r (apart c turns harts caches) h x) (border_at r c x) (action_in r c h x)
one-apart r c h turns harts caches x =
    walk r (apart c turns harts caches) r c h x x.frames x.status AreOne
    (record { dead = refl; gate = refl; back = refl; denied = λ address access. refl; fetch = λ e. refl; load = λ address width a e. refl })
    (one-leaves r (apart c turns harts caches) h x x.frames x.status)

-- the kind of a turn
pub kind-asked : (r : Reads) (c : Core) (h : ℕ) (x : Hart) (call : Call) (b : Bool) → (asked r c h x call b).kind ≡ T.Called
kind-asked r c h x call true = refl
kind-asked r c h x call false = refl

kind-acted : (r : Reads) (c : Core) (h : ℕ) (x : Hart) (a : Action) → ((acted r c h x a).kind ≡ T.Ran) ↔ IsRun a
kind-acted r c h x Rests = (λ e. let q : ⊥ = cc in q, λ p. absurd p)
kind-acted r c h x Waits = (λ e. let q : ⊥ = cc in q, λ p. absurd p)
kind-acted r c h x (Serves call) = (λ e. let q : ⊥ = cc in q, λ p. absurd p)
kind-acted r c h x (Asks call) = (λ e. let k = kind-asked r c h x call (is_served_now c h call) in let q : ⊥ = cc in q, λ p. absurd p)
kind-acted r c h x (Traps cause value) = (λ e. let q : ⊥ = cc in q, λ p. absurd p)
kind-acted r c h x Bounces = (λ e. let q : ⊥ = cc in q, λ p. absurd p)
kind-acted r c h x (Crosses target) = (λ e. let q : ⊥ = cc in q, λ p. absurd p)
kind-acted r c h x (Returns rd frame) = (λ e. let q : ⊥ = cc in q, λ p. absurd p)
kind-acted r c h x (Runs regs pc) = (λ e. tt, λ p. refl)
kind-acted r c h x (Writes address size value) = (λ e. tt, λ p. refl)

-- what a running hart's turn is: the action decided, done in a state that differs in turns, harts and caches
turned-running : (r : Reads) (c : Core) (h : ℕ) (t : TurnsBy r c h) → IsRunning c h →
    turned r c h ≡ acted r (apart c t.turns t.harts t.after) h (hart_at c h)
    (action_in r (apart c t.turns t.harts t.before) h (hart_at c h))
turned-running r c h t e =
    t.is ∙ ap (λ (s : Status). acted r (apart c t.turns t.harts t.after) h (hart_at c h)
    (by_status r (apart c t.turns t.harts t.before) h (hart_at c h) s).action) e

pub ran-free : (r : Reads) (c : Core) (h : ℕ) → IsRunning c h → ((turned r c h).kind ≡ T.Ran) ↔ (border r c h ≡ Nothing)
ran-free r c h e =
    let t = by-action r c h in
    let x = hart_at c h in
    let one = one-apart r c h t.turns t.harts t.before x in
    let kind = kind-acted r (apart c t.turns t.harts t.after) h x (action_in r (apart c t.turns t.harts t.before) h x) in
    let is = ap (λ (m : Made). m.kind) (turned-running r c h t e) in
    (λ k. sym one.border ∙ one.only (kind.0 (sym is ∙ k)), λ k. is ∙ kind.1 (one.runs (one.border ∙ k)))

-- a turn is idle exactly where its hart rests
idle-acted : (r : Reads) (c : Core) (h : ℕ) (x : Hart) (a : Action) → (acted r c h x a).kind ≡ T.Idle → a ≡ Rests
idle-acted r c h x Rests e = refl
idle-acted r c h x Waits e = absurd (let q : ⊥ = cc in q)
idle-acted r c h x (Serves call) e = absurd (let q : ⊥ = cc in q)
idle-acted r c h x (Asks call) e = absurd (let k = kind-asked r c h x call (is_served_now c h call) in let q : ⊥ = cc in q)
idle-acted r c h x (Traps cause value) e = absurd (let q : ⊥ = cc in q)
idle-acted r c h x Bounces e = absurd (let q : ⊥ = cc in q)
idle-acted r c h x (Crosses target) e = absurd (let q : ⊥ = cc in q)
idle-acted r c h x (Returns rd frame) e = absurd (let q : ⊥ = cc in q)
idle-acted r c h x (Runs regs pc) e = absurd (let q : ⊥ = cc in q)
idle-acted r c h x (Writes address size value) e = absurd (let q : ⊥ = cc in q)

-- a hart that isn't halted does something
passing-busy : (a : Action) → IsPassing a → a ≡ Rests → ⊥
passing-busy a (Stopped cause value) e = let q : ⊥ = cc in q
passing-busy a SentBack e = let q : ⊥ = cc in q
passing-busy a (Passed target) e = let q : ⊥ = cc in q

returning-busy : (x : Hart) (a : Action) → IsReturning x a → a ≡ Rests → ⊥
returning-busy x a (Refused cause value) e = let q : ⊥ = cc in q
returning-busy x a (Returned rd frame p) e = let q : ⊥ = cc in q

busy-leaves : (r : Reads) (c : Core) (h : ℕ) (x : Hart) → Leaves r c h x x.frames x.status
    (λ (k : Border) (a : Action) (l : Border) (b : Action). a ≡ Rests → ⊥)
busy-leaves r c h x = record {
  trap = λ cause value e. let q : ⊥ = cc in q;
  gate = λ word target x1 a b p q. passing-busy a p;
  back = λ target a b p q. returning-busy x a p;
  call = λ e. let q : ⊥ = cc in q;
  run = λ regs pc e. let q : ⊥ = cc in q;
  write = λ address size value s a n e. let q : ⊥ = cc in q;
}

busy-waiting : (call : Call) (b : Bool) → (if b then Serves call else Waits) ≡ Rests → ⊥
busy-waiting call true e = let q : ⊥ = cc in q
busy-waiting call false e = let q : ⊥ = cc in q

rests-ended : (r : Reads) (c : Core) (h : ℕ) (x : Hart) (s : Status) → (by_status r c h x s).action ≡ Rests → standing s ≡ Ended
rests-ended r c h x Running e = absurd (walk r c r c h x x.frames x.status (λ k a l b. a ≡ Rests
    → ⊥) (same-self r c x) (busy-leaves r c h x) e)
rests-ended r c h x (Waiting call heard) e = absurd (busy-waiting call (is_ready c h heard) e)
rests-ended r c h x (Halted code) e = refl

pub ended-rests : (r : Reads) (c : Core) (h : ℕ) (x : Hart) (s : Status) → standing s ≡ Ended → (by_status r c h x s).action ≡ Rests
ended-rests r c h x Running e = absurd (let q : ⊥ = cc in q)
ended-rests r c h x (Waiting call heard) e = absurd (let q : ⊥ = cc in q)
ended-rests r c h x (Halted code) e = refl

pub idle-ended : (r : Reads) (c : Core) (h : ℕ) → ((turned r c h).kind ≡ T.Idle) ↔ (standing (hart_at c h).status ≡ Ended)
idle-ended r c h =
    let t = by-action r c h in
    let x = hart_at c h in
    let before = apart c t.turns t.harts t.before in
    let after = apart c t.turns t.harts t.after in
    let is = ap (λ (m : Made). m.kind) t.is in (
      λ e. rests-ended r before h x x.status (idle-acted r after h x (by_status r before h x x.status).action (sym is ∙ e)),
      λ e. is ∙ ap (λ (a : Action). (acted r after h x a).kind) (ended-rests r before h x x.status e),
    )

-- a running hart's turn without a border is the action that the state before decides
turned-free : (r : Reads) (c : Core) (h : ℕ) (t : TurnsBy r c h) → IsRunning c h → border r c h ≡ Nothing →
    turned r c h ≡ acted r (apart c t.turns t.harts t.after) h (hart_at c h) (action_in r c h (hart_at c h))
turned-free r c h t e k =
    let x = hart_at c h in
    let one = one-apart r c h t.turns t.harts t.before x in
    turned-running r c h t e ∙ ap (λ (a : Action). acted r (apart c t.turns t.harts t.after) h x a) (one.same (one.border ∙ k))

-- hart x after an action that runs
abbrev pub regs_of : Hart → Action → List ℕ
regs_of x (Runs regs pc) = regs
regs_of x action = x.regs

abbrev pub pc_of : Hart → Action → ℕ
pc_of x (Runs regs pc) = pc
pc_of x action = next x.pc

abbrev pub hart_then : Hart → Action → Hart
hart_then x a = record x { regs = regs_of x a; pc = pc_of x a; status = Running }

-- what an action that runs leaves
record IsLeft (c : Core) (h : ℕ) (x : Hart) (a : Action) (m : Made) : Type 0 where
  ram : m.core.ram ≡ stored c.ram (store_of a)
  modules : m.core.modules ≡ c.modules
  gates : m.core.gates ≡ c.gates
  harts : m.core.harts ≡ set c.harts h (hart_then x a)
  change : m.change ≡ None

left-acted : (r : Reads) (c : Core) (h : ℕ) (x : Hart) (a : Action) → IsRun a → IsLeft c h x a (acted r c h x a)
unfolding put_at
left-acted r c h x (Runs regs pc) p = record { ram = refl; modules = refl; gates = refl; harts = refl; change = refl }
left-acted r c h x (Writes address size value) p = record { ram = refl; modules = refl; gates = refl; harts = refl; change = refl }
left-acted r c h x Rests p = absurd p
left-acted r c h x Waits p = absurd p
left-acted r c h x (Serves call) p = absurd p
left-acted r c h x (Asks call) p = absurd p
left-acted r c h x (Traps cause value) p = absurd p
left-acted r c h x Bounces p = absurd p
left-acted r c h x (Crosses target) p = absurd p
left-acted r c h x (Returns rd frame) p = absurd p

-- what a turn without a border leaves: RAM but for one store, modules, gates, and each hart
pub record IsLeftFree (r : Reads) (c : Core) (h : ℕ) (a : Action) : Type 0 where
  pub ram : (turned r c h).core.ram ≡ stored c.ram (store_of a)
  pub modules : (turned r c h).core.modules ≡ c.modules
  pub gates : (turned r c h).core.gates ≡ c.gates
  pub change : (turned r c h).change ≡ None
  pub own : hart_at (turned r c h).core h ≡ hart_then (hart_at c h) a
  pub others : (g : ℕ) → g ≢ h → IsAlike (hart_at c g) (hart_at (turned r c h).core g)

left-free : (r : Reads) (c : Core) (h : ℕ) → IsRunning c h → border r c h ≡ Nothing → IsRun (action_in r c h (hart_at c h)) →
    IsLeftFree r c h (action_in r c h (hart_at c h))
left-free r c h e k p =
    let t = by-action r c h in
    let x = hart_at c h in
    let a = action_in r c h x in
    let m = acted r (apart c t.turns t.harts t.after) h x a in
    let is = turned-free r c h t e k in
    let left = left-acted r (apart c t.turns t.harts t.after) h x a p in
    let l : h < length c.harts = there c h (ap is_halted e) in
    let harts = ap (λ (n : Made). n.core.harts) is ∙ left.harts in
    record {
      ram = ap (λ (n : Made). n.core.ram) is ∙ left.ram;
      modules = ap (λ (n : Made). n.core.modules) is ∙ left.modules;
      gates = ap (λ (n : Made). n.core.gates) is ∙ left.gates;
      change = ap (λ (n : Made). n.change) is ∙ left.change;
      own = ap (λ (hs : List Hart). get_or hs h no_hart) harts
          ∙ get_or-set_same t.harts h (hart_then x a) no_hart (subst (λ (n : ℕ). h < n) (sym t.heard.count) l);
      others = λ g n. subst (IsAlike (hart_at c g))
          (sym (ap (λ (hs : List Hart). get_or hs g no_hart) harts ∙ get_or-set_other t.harts h g (hart_then x a) no_hart n))
          (t.heard.others g);
    }

-- twins whose hart meets no border
pub left-twin : (r : Reads) (c : Core) (q : Reads) (e : Core) (h : ℕ) → AreFreeTwins r c q e h
    → IsLeftFree r c h (action_in r c h (hart_at c h))
left-twin r c q e h t = left-free r c h t.running t.free ((one-twins r c q e h t.twins).runs t.free)

-- the hart of the second state runs too
pub standing-running : (s t : Status) → s ≡ Running → standing s ≡ standing t → t ≡ Running
standing-running s Running e f = refl
standing-running s (Waiting call heard) e f = absurd (let k = ap standing e in let q : ⊥ = cc in q)
standing-running s (Halted code) e f = absurd (let k = ap standing e in let q : ⊥ = cc in q)

pub left-other : (r : Reads) (c : Core) (q : Reads) (e : Core) (h : ℕ) → AreFreeTwins r c q e h
    → IsLeftFree q e h (action_in r c h (hart_at c h))
left-other r c q e h t =
    let one = one-twins r c q e h t.twins in
    let same = one.same t.free in
    subst (IsLeftFree q e h) (sym same)
    (left-free q e h (standing-running (hart_at c h).status (hart_at e h).status t.running t.twins.agreement.same_standing)
    (sym one.border ∙ t.free) (subst IsRun same (one.runs t.free)))

pub store-twins : (r q : Reads) (c e : Core) (h : ℕ) → AreFreeTwins r c q e h → MakeOneStore r c q e h
store-twins r q c e h t = record {
  store = store_of (action_in r c h (hart_at c h));
  few = (one-twins r c q e h t.twins).few t.free;
  first = (left-twin r c q e h t).ram;
  second = (left-other r c q e h t).ram;
}
