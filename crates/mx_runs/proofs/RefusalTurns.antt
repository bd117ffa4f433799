-- The turn of a refused call: where a hart runs on with a code in x10, and what that turn leaves.
use Rattle.std.proofs.Common.{◌≡◌, ◌∙◌, ◌⊎◌, ◌↔◌, ℕ, ◌+◌, ◌<◌, Bool, true, false, [], length, set, refl, sym, ap, subst, set-set, arith}
use Rattle.std.proofs.Common.{if◌then◌else◌, Option, Some, None, ⊎_elim}
use Rattle.std.proofs.lemmas.Bool.{ltb-true, ltb-false}
use Rattle.std.proofs.lemmas.List.{get_or-set_same, get_or-set_other}
use Rattle.std.proofs.Math.ListN.{get_or-eq_default}
use Rattle.mx_words.specs.Caches.{Cache}
use Rattle.mx_model.specs.declared.values.Call.{Call}
use Rattle.mx_model.specs.declared.values.TurnKind.TheVariants as T
use Rattle.mx_words.specs.FirstRow.{first_row}
use Rattle.mx_model.specs.declared.values.Note.TheVariants as N
use Rattle.mx_model.specs.Checks.{looked_all}
use Rattle.mx_model.specs.Effect.{next, reg}
use Rattle.mx_model.specs.Reads.{Reads}
use Rattle.mx_model.specs.Serve.{Served, Service, code, serve, service}
use Rattle.mx_model.specs.State.{Core, Hart, Running, Halted, hart_at, with_cache}
use Rattle.mx_model.specs.Turn.{Action, Rests, Waits, Serves, Asks, Traps, Bounces, Crosses, Returns, Runs, Writes, Made, acted, answered}
use Rattle.mx_model.specs.Turn.{asked, call_of, counted, decide, done, enacted, is_served_now, served, with_regs}
use Rattle.mx_model.specs.Valid.{IsCall, IsHart, IsValid}
use Rattle.mx_model.proofs.DecideLaws.{IsAction, action-decide, call-of}
use Rattle.mx_model.proofs.KeepLaws.{keeps-serve}
use Rattle.mx_model.proofs.TurnLaws.{valid-heard_first}
use Rattle.mx_model.proofs.ValidParts.{valid-cache, valid-turns}
use Rattle.mx_runs.specs.Refusals.{IsCode, LeavesRefused, RefusesTurn, RunsOnWithCode, acting, effective, refusal, rows_of, runs_on_with}
use Rattle.mx_runs.proofs.RefusalLaws.{OwnCaches, code-is, own-looks, own-self, refused-tested, refused-told, some-row}

-- a turn that is a call after which hart h runs with a code in x10
record EndsSo (h n : ℕ) (m : Made) : Type 0 where
  called : m.kind ≡ T.Called
  running : (hart_at m.core h).status ≡ Running
  x10 : reg (hart_at m.core h).regs 10 ≡ n
  code : IsCode n

-- what a turn leaves of the state in which its hart acts
record LeavesSo (b : Core) (h n : ℕ) (m : Made) : Type 0 where
  cache : Cache
  core : m.core ≡ runs_on_with b h n cache
  no_change : m.change ≡ None
  no_give : m.give ≡ None
  no_byte : m.console ≡ []
  no_note : m.note ≡ None

-- an action by which a call takes effect and is refused
record RefusesSo (r : Reads) (b : Core) (h n : ℕ) (a : Action) : Type 0 where
  call : Call
  effect : effective b h a ≡ Some call
  row : ℕ
  fails : refusal r b call ≡ Some row
  answer : n ≡ code row

-- a hart after a served call, which ends it or not
hart-done : (h : ℕ) (x : Hart) (s : Served) (b : Bool) → s.stop ≡ b → h < length s.core.harts →
    hart_at (done h x s).core h
    ≡ (if b then record x { status = Halted (Some s.a0) } else record x {
      regs = answered x s.a0 s.a1;
      pc = next x.pc;
      status = Running;
    })
hart-done h x s x1 e l = grind (arith, get_or-set_same)

x10-answered : (x : Hart) (a0 : ℕ) (a1 : Option ℕ) → length x.regs ≡ 32 → reg (answered x a0 a1) 10 ≡ a0
x10-answered x a0 None e = get_or-set_same x.regs 10 a0 0 (omega (arith, e))
x10-answered x a0 (Some a) e =
    get_or-set_other (set x.regs 10 a0) 11 10 a 0 (λ n. let q : ⊥ = omega (arith, n) in q)
    ∙ get_or-set_same x.regs 10 a0 0 (omega (arith, e))

-- a served call that answers a number and makes nothing else
done-is : (h : ℕ) (x : Hart) (s : Served) (e : Core) (n : ℕ) → s.stop ≡ false → s.a0 ≡ n → s.a1 ≡ None → s.core ≡ e →
    (done h x s).core ≡ with_regs h x (set x.regs 10 n) (next x.pc) e
done-is h x s e n p q t i = search (arith, s.core, s.a0, x.regs)

-- a call's tests read no caches
rows-caches : (s : Service) (r : Reads) (c : Core) (h : ℕ) (cache : Cache) (call : Call) →
    rows_of s r (with_cache h cache c) call ≡ rows_of s r c call
rows-caches x r c h cache call = grind arith

refusal-caches : (r : Reads) (c : Core) (h : ℕ) (cache : Cache) (call : Call) →
    refusal r (with_cache h cache c) call ≡ refusal r c call
refusal-caches r c h cache call = ap first_row (rows-caches (service call.number) r c h cache call)

-- hart h, which is there, acts in a state but for its own caches
module _ (r : Reads) (b : Core) (h : ℕ) (k : Cache) (v : IsValid b) (l : h < length b.harts) where
  abbrev own : Hart
  own = hart_at b h

  abbrev seen : Core
  seen = with_cache h k b

  whole : IsHart (length b.modules) (length b.harts) h own
  whole = v.harts h l

  there : (call : Call) → h < length (serve r seen call).core.harts
  there call = subst (λ (n : ℕ). h < n) (sym (keeps-serve r seen call).harts) l

  -- a call of its own is told from its answer
  served-tells : (call : Call) → IsCall (length b.modules) h call → (n : ℕ) → EndsSo h n (served r seen h own call) →
      (row : ℕ) × (refusal r b call ≡ Some row) × (n ≡ code row)
  served-tells call p n e =
      let s = serve r seen call in
      elim s.stop as (λ t. s.stop ≡ t → (row : ℕ) × (refusal r b call ≡ Some row) × (n ≡ code row)) [
        | true ↦ search (arith, hart-done, own, there)
        | false ↦ λ t.
            let a0 : s.a0 ≡ n = sym (x10-answered own s.a0 s.a1 whole.regs.count)
            ∙ sym (ap (λ (x : Hart). reg x.regs 10) (hart-done h own s false t (there call))) ∙ e.x10 in
            let told = (refused-told r seen h call (valid-cache b h k v) p l).0 (search arith) in
            let found = some-row (refusal r seen call) told in (
              found.0,
              sym (refusal-caches r b h k call) ∙ found.1,
              sym a0
                  ∙ (refused-tested r seen call found.0 found.1).answer,
            )
      ] refl

  -- a refused call of its own
  served-ends : (call : Call) → (row : ℕ) → refusal r b call ≡ Some row → EndsSo h (code row) (served r seen h own call)
  served-ends call row q =
      let s = serve r seen call in
      let t = refused-tested r seen call row (refusal-caches r b h k call ∙ q) in
      let x = hart-done h own s false t.runs_on (there call) in
      search (arith, x10-answered, own, s.a0, s.a1, code-is, seen)

  served-leaves : (call : Call) → call.hart ≡ h →
      (row : ℕ) → refusal r b call ≡ Some row → LeavesSo b h (code row) (served r seen h own call)
  served-leaves call i row q =
      let s = serve r seen call in
      let t = refused-tested r seen call row (refusal-caches r b h k call ∙ q) in
      record {
        cache = t.cache;
        core = done-is h own s (with_cache h t.cache b) (code row) t.runs_on t.answer t.no_second
            (cc (t.core, i, set-set b.caches h k t.cache));
        no_change = t.no_change;
        no_give = t.no_give;
        no_byte = t.no_byte;
        no_note = ap (λ (stop : Bool). if stop then Some (N.Exit s.core.turns h own.domain s.a0) else None) t.runs_on;
      }

  -- a call asked for, which is served now or not
  asked-effect : (call : Call) (t : Bool) → is_served_now b h call ≡ t →
      effective b h (Asks call) ≡ (if t then Some call else None)
  asked-effect call t e = ap (λ (s : Bool). if s then Some call else None) e

  asked-waits : (call : Call) (n : ℕ) → EndsSo h n (asked r seen h own call false) → ⊥
  asked-waits call n e = search (arith, get_or-set_same, b.harts, own)

  own-call : (call : Call) → call ≡ call_of h own → IsCall (length b.modules) h call
  own-call call e = search (arith, call-of, own, whole)

  asked-tells : (call : Call) → call ≡ call_of h own →
      (n : ℕ) (t : Bool) → is_served_now b h call ≡ t → EndsSo h n (asked r seen h own call t) →
      RefusesSo r b h n (Asks call)
  asked-tells call p n false i e = absurd (asked-waits call n e)
  asked-tells call p n true i e =
      let found = served-tells call (own-call call p) n e in
      record { call = call; effect = asked-effect call true i; row = found.0; fails = found.1; answer = found.2 }

  -- where the hart ends so a call was refused
  acted-tells : (a : Action) (n : ℕ) → IsAction (length b.modules) h own a → EndsSo h n (acted r seen h own a) →
      RefusesSo r b h n a
  acted-tells Rests n p e = absurd (cc)
  acted-tells Waits n p e = absurd (cc)
  acted-tells (Serves call) n p e =
      let found = served-tells call p n e in
      record { call = call; effect = refl; row = found.0; fails = found.1; answer = found.2 }
  acted-tells (Asks call) n p e = asked-tells call p n (is_served_now b h call) refl e
  acted-tells (Traps cause value) n p e = absurd (let q : ⊥ = cc in q)
  acted-tells Bounces n p e = absurd (let i = e.called in let q : ⊥ = cc in q)
  acted-tells (Crosses target) n p e = absurd (let i = e.called in let q : ⊥ = cc in q)
  acted-tells (Returns rd frame) n p e = absurd (let i = e.called in let q : ⊥ = cc in q)
  acted-tells (Runs regs pc) n p e = absurd (let i = e.called in let q : ⊥ = cc in q)
  acted-tells (Writes address size value) n p e = absurd (let i = e.called in let q : ⊥ = cc in q)

  -- by a call that takes effect the action is to serve it
  effective-acts : (a : Action) (call : Call) → effective b h a ≡ Some call →
      acted r seen h own a ≡ served r seen h own call
  effective-acts Rests call e = absurd (cc)
  effective-acts Waits call e = absurd (cc)
  effective-acts (Serves mine) call e = let i : mine ≡ call = cc in ap (λ (x : Call). served r seen h own x) i
  effective-acts (Asks mine) call e =
      elim (is_served_now b h mine) as (λ t. (if t then Some mine else None) ≡ Some call →
      asked r seen h own mine t ≡ served r seen h own call) [
        | true ↦ λ f. let i : mine ≡ call = cc in ap (λ (x : Call). served r seen h own x) i
        | false ↦ λ f. absurd (let q : ⊥ = cc in q)
      ] e
  effective-acts (Traps cause value) call e = absurd (let q : ⊥ = cc in q)
  effective-acts Bounces call e = absurd (let q : ⊥ = cc in q)
  effective-acts (Crosses target) call e = absurd (let q : ⊥ = cc in q)
  effective-acts (Returns rd frame) call e = absurd (let q : ⊥ = cc in q)
  effective-acts (Runs regs pc) call e = absurd (let q : ⊥ = cc in q)
  effective-acts (Writes address size value) call e = absurd (let q : ⊥ = cc in q)

  -- and it is of the hart
  effective-own : (a : Action) (call : Call) → IsAction (length b.modules) h own a → effective b h a ≡ Some call →
      call.hart ≡ h
  effective-own x call p e = grind (arith, own-call)

  acted-ends : (a : Action) (n : ℕ) → RefusesSo r b h n a → EndsSo h n (acted r seen h own a)
  acted-ends a n p =
      subst (λ (m : Made). EndsSo h n m) (sym (effective-acts a p.call p.effect))
      (subst (λ (i : ℕ). EndsSo h i (served r seen h own p.call)) (sym p.answer) (served-ends p.call p.row p.fails))

  acted-leaves : (a : Action) (n : ℕ) → IsAction (length b.modules) h own a → RefusesSo r b h n a →
      LeavesSo b h n (acted r seen h own a)
  acted-leaves a n q p =
      subst (λ (m : Made). LeavesSo b h n m) (sym (effective-acts a p.call p.effect))
      (subst (λ (i : ℕ). LeavesSo b h i (served r seen h own p.call)) (sym p.answer)
      (served-leaves p.call (effective-own a p.call q p.effect) p.row p.fails))

-- hart h is there, or it rests
by-place : (r : Reads) (b : Core) (h : ℕ) → (h < length b.harts) ⊎ ((decide r b h).action ≡ Rests)
by-place r b h = search (arith, ltb-true, get_or-eq_default, b.harts, ltb-false)

-- the turn of hart h in the state in which it acts
abbrev turned_in : Reads → Core → ℕ → Made
turned_in r b h = enacted r b h (decide r b h)

seen-own : (r : Reads) (b : Core) (h : ℕ) → OwnCaches h b (looked_all r h (decide r b h).looks b)
seen-own r b h = own-looks r h (decide r b h).looks b b (own-self h b)

-- a turn, in a state but for the caches of its hart
turned-seen : (r : Reads) (b : Core) (h : ℕ) →
    turned_in r b h ≡ acted r (with_cache h (seen-own r b h).cache b) h (hart_at b h) (decide r b h).action
turned-seen r b h = ap (λ (e : Core). acted r e h (hart_at b h) (decide r b h).action) (seen-own r b h).is

resting-ends : (r : Reads) (c : Core) (h n : ℕ) (x : Hart) (a : Action) → a ≡ Rests → EndsSo h n (acted r c h x a) → ⊥
resting-ends r c h n x a e p = search arith

resting-refuses : (r : Reads) (b : Core) (h n : ℕ) (a : Action) → a ≡ Rests → RefusesSo r b h n a → ⊥
resting-refuses r b h n a e p = search arith

turned-tells : (r : Reads) (b : Core) (h n : ℕ) → IsValid b → EndsSo h n (turned_in r b h) →
    RefusesSo r b h n (decide r b h).action
turned-tells r b h n v p =
    let k = (seen-own r b h).cache in
    let e = subst (λ (m : Made). EndsSo h n m) (turned-seen r b h) p in
    ⊎_elim (λ l. acted-tells r b h k v l (decide r b h).action n (action-decide r b h v l) e)
    (λ i. absurd (resting-ends r (with_cache h k b) h n (hart_at b h) (decide r b h).action i e)) (by-place r b h)

turned-ends : (r : Reads) (b : Core) (h n : ℕ) → IsValid b → RefusesSo r b h n (decide r b h).action →
    EndsSo h n (turned_in r b h)
turned-ends r b h n v p =
    subst (λ (m : Made). EndsSo h n m) (sym (turned-seen r b h)) (
    ⊎_elim (λ l. acted-ends r b h ((seen-own r b h).cache) v l (decide r b h).action n p)
    (λ i. absurd (resting-refuses r b h n (decide r b h).action i p)) (by-place r b h))

turned-leaves : (r : Reads) (b : Core) (h n : ℕ) → IsValid b → RefusesSo r b h n (decide r b h).action →
    LeavesSo b h n (turned_in r b h)
turned-leaves r b h n v p =
    subst (λ (m : Made). LeavesSo b h n m) (sym (turned-seen r b h)) (
    ⊎_elim (λ l. acted-leaves r b h ((seen-own r b h).cache) v l (decide r b h).action n (action-decide r b h v l) p)
    (λ i. absurd (resting-refuses r b h n (decide r b h).action i p)) (by-place r b h))

valid-acting : (c : Core) (h : ℕ) → IsValid c → IsValid (acting c h)
valid-acting c h v = valid-heard_first (counted c) h (valid-turns c (c.turns + 1) v)

tells-turn : (r : Reads) (c : Core) (h n : ℕ) → IsValid c → RunsOnWithCode r c h n →
    RefusesSo r (acting c h) h n (decide r (acting c h) h).action
tells-turn r c h n v p = search (arith, turned-tells, valid-acting)

pub refused-exact : (r : Reads) (c : Core) (h n : ℕ) → IsValid c → RunsOnWithCode r c h n ↔ RefusesTurn r c h n
refused-exact r c h n v = (
  λ p. let q = tells-turn r c h n v p in
      record { call = q.call; effect = q.effect; row = q.row; fails = q.fails; answer = q.answer },
  λ p.
      let q = turned-ends r (acting c h) h n (valid-acting c h v)
      (record { call = p.call; effect = p.effect; row = p.row; fails = p.fails; answer = p.answer }) in
      record { called = q.called; running = q.running; x10 = q.x10; code = q.code },
)

pub refused-turn : (r : Reads) (c : Core) (h n : ℕ) → IsValid c → RunsOnWithCode r c h n → LeavesRefused r c h n
refused-turn r c h n v p =
    let q = turned-leaves r (acting c h) h n (valid-acting c h v) (tells-turn r c h n v p) in
    search arith
