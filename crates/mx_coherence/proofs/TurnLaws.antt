-- Coherence through a turn.
use Rattle.std.proofs.Common.{◌≡◌, ℕ, ◌+◌, ◌-◌, ◌*◌, ◌<◌, Bool, true, false, cond, not, ◌==◌, ◌%◌, nat_le, nat_lt, List, length, refl, sym}
use Rattle.std.proofs.Common.{ap, subst, arith, Option, Some, None, if◌then◌else◌}
use Rattle.std.specs.List.{AllByRecursion}
use Rattle.std.proofs.lemmas.Bool.{and_parts, ltb-true}
use Rattle.mx_words.specs.declared.perm.Access.TheVariants as A
use Rattle.mx_words.specs.Ranges.{in_ram, ram_base}
use Rattle.mx_isa.specs.declared.inst.Inst.{Inst}
use Rattle.mx_isa.specs.Table.{decoded}
use Rattle.mx_model.specs.declared.values.Call.{Call}
use Rattle.mx_model.specs.Agreement.{Border}
use Rattle.mx_model.specs.Checks.{hears, is_halted, is_ready, looked_all, looks_at}
use Rattle.mx_model.specs.Effect.{Effect, Goes, Faults, Loads, Stores, Calls, Jumps, effect, reg}
use Rattle.mx_model.specs.Gates.{most_frames}
use Rattle.mx_model.specs.Reads.{Reads}
use Rattle.mx_model.specs.State.{Core, Hart, Status, Running, Waiting, Halted, cache_at, hart_at, module_at}
use Rattle.mx_model.specs.Turn.{Action, Rests, Waits, Serves, Asks, Traps, Bounces, Crosses, Returns, Runs, Writes, Decided, acted}
use Rattle.mx_model.specs.Turn.{by_effect, by_status, by_word, call_gate_at, call_of, counted, decide, enacted, fetches, heard_first}
use Rattle.mx_model.specs.Turn.{is_denied, load_at, runs_at, runs_in, traps, turned, without_look}
use Rattle.mx_model.specs.Valid.{IsStatus, IsValid}
use Rattle.mx_model.proofs.JoinLaws.{all-join}
use Rattle.mx_model.proofs.TurnCases.{looked_all-caches}
use Rattle.mx_model.proofs.TurnLaws.{valid-heard_first}
use Rattle.mx_model.proofs.ValidParts.{valid-caches, valid-turns}
use Rattle.mx_model.proofs.KeepLaws.{keeps-heard_first, keeps-looked_all}
use Rattle.mx_laws.proofs.TurnParts.{there}
use Rattle.mx_laws.proofs.Walk.{IsPassing, IsReturning, Leaves, Passed, Refused, Returned, SentBack, Stopped, same-self, walk}
use Rattle.mx_coherence.specs.Coherence.{HasDropped, IsCoherent}
use Rattle.mx_coherence.proofs.FollowLaws.{IsOutcome, coherent-none}
use Rattle.mx_coherence.proofs.HearLaws.{coherent-hears}
use Rattle.mx_coherence.proofs.LookLaws.{IsLook, WalksAgree, coherent-looked_all}
use Rattle.mx_coherence.proofs.ActionLaws.{MayAct, acted-outcome, ready-heard}
use Rattle.mx_coherence.proofs.StepLaws.{coherent-same}

-- looks at an address are at a word of RAM
looks-in : (c : Core) (place d address : ℕ) → AllByRecursion (IsLook c.size d) (looks_at c place d address)
looks-in c place d address = by (in_ram address c.size) refl
  where
    by : (b : Bool) → in_ram address c.size ≡ b → AllByRecursion (IsLook c.size d) (looks_at c place d address)
    by true e =
        let p = and_parts (nat_le ram_base address) (nat_lt (address - ram_base) (4 * c.size)) e in
        let l = ltb-true (address - ram_base) (4 * c.size) p.1 in
        rw e (record { domain = refl; word = omega (arith, l) }, tt)
    by false e = rw e tt

-- the looks of a running hart are at words of RAM, in its domain
looks-effect : (r : Reads) (c : Core) (h : ℕ) (x : Hart) (f : Effect) → AllByRecursion (IsLook c.size x.domain) (by_effect r c h x f).looks
looks-effect r c h x (Goes regs pc) = tt
looks-effect r c h x (Faults cause value) = tt
looks-effect r c h x (Loads p address width rd) = looks-in c p x.domain address
looks-effect r c h x (Stores p address size value) = looks-in c p x.domain address
looks-effect r c h x Calls = tt
looks-effect r c h x (Jumps rd target) = tt

looks-word : (r : Reads) (c : Core) (h : ℕ) (x : Hart) (word : ℕ) (o : Option Inst)
    → AllByRecursion (IsLook c.size x.domain) (by_word r c h x word o).looks
looks-word r c h x word None = tt
looks-word r c h x word (Some inst) = looks-effect r c h x (effect inst x.regs x.pc)

looks-fetch : (r : Reads) (c : Core) (h : ℕ) (x : Hart) (b : Bool) → AllByRecursion (IsLook c.size x.domain) (fetches r c h x b).looks
looks-fetch r c h x true = tt
looks-fetch r c h x false = looks-word r c h x (load_at c x.pc 4) (decoded (load_at c x.pc 4))

looks-passing : (c : Core) (d : ℕ) (b : Bool) (p q : Decided) → AllByRecursion (IsLook c.size d) p.looks
    → AllByRecursion (IsLook c.size d) q.looks →
    AllByRecursion (IsLook c.size d) (cond b p q).looks
looks-passing c d true p q a b = a
looks-passing c d false p q a b = b

looks-gate : (r : Reads) (c : Core) (h : ℕ) (x : Hart) (o : Option ℕ) → AllByRecursion (IsLook c.size x.domain) (runs_at r c h x o).looks
looks-gate r c h x (Some target) =
    let x1 = reg x.regs 1 in
    let full = nat_le most_frames (length x.frames) in
    let last : Decided = if full then traps 16 x.pc else without_look (Crosses target) in
    let dead : Decided = if (module_at c target).dead then without_look Bounces else last in
    looks-passing c x.domain (not (x1 % 4 == 0)) (traps 19 x1) dead tt (
    looks-passing c x.domain (module_at c target).dead (without_look Bounces) last tt (
    looks-passing c x.domain full (traps 16 x.pc) (without_look (Crosses target)) tt tt))
looks-gate r c h x None =
    all-join (IsLook c.size x.domain) (looks_at c 0 x.domain x.pc) (fetches r c h x (is_denied r c x.domain x.pc A.Execute)).looks
    (looks-in c 0 x.domain x.pc) (looks-fetch r c h x (is_denied r c x.domain x.pc A.Execute))

looks-alive : (r : Reads) (c : Core) (h : ℕ) (x : Hart) (b : Bool) → AllByRecursion (IsLook c.size x.domain) (runs_in r c h x b).looks
looks-alive r c h x true = tt
looks-alive r c h x false = looks-gate r c h x (call_gate_at c x.domain x.pc)

looks-status : (r : Reads) (c : Core) (h : ℕ) (x : Hart) (s : Status) → AllByRecursion (IsLook c.size x.domain) (by_status r c h x s).looks
looks-status r c h x Running = looks-alive r c h x (module_at c x.domain).dead
looks-status r c h x (Waiting call heard) = tt
looks-status r c h x (Halted code) = tt

-- a running hart serves no call on which it waited, and makes its own
abbrev IsRun : ℕ → Hart → Action → Type 0
IsRun h x (Serves call) = ⊥
IsRun h x (Asks call) = call ≡ call_of h x
IsRun h x action = Unit {0}

run-passing : (h : ℕ) (x : Hart) (a : Action) → IsPassing a → IsRun h x a
run-passing h x a (Stopped cause value) = tt
run-passing h x a SentBack = tt
run-passing h x a (Passed target) = tt

run-returning : (h : ℕ) (x : Hart) (a : Action) → IsReturning x a → IsRun h x a
run-returning h x a (Refused cause value) = tt
run-returning h x a (Returned rd frame p) = tt

run-leaves : (r : Reads) (c : Core) (h : ℕ) (x : Hart) → Leaves r c h x x.frames x.status
    (λ (k : Border) (a : Action) (l : Border) (b : Action). IsRun h x a)
run-leaves r c h x = record {
  trap = λ cause value. tt;
  gate = λ word target x1 a b p q. run-passing h x a p;
  back = λ target a b p q. run-returning h x a p;
  call = refl;
  run = λ regs pc. tt;
  write = λ address size value s a n. tt;
}

run-may : (c : Core) (h : ℕ) (a : Action) → IsRun h (hart_at c h) a → MayAct c h a
run-may c h Rests p = tt
run-may c h Waits p = tt
run-may c h (Serves call) p = absurd p
run-may c h (Asks call) p = p
run-may c h (Traps cause value) p = tt
run-may c h Bounces p = tt
run-may c h (Crosses target) p = tt
run-may c h (Returns rd frame) p = tt
run-may c h (Runs regs pc) p = tt
run-may c h (Writes address size value) p = tt

module _ (r : Reads) (c : Core) (h : ℕ) (k : IsCoherent r c) (walks : WalksAgree r c.size) (v : IsValid c) where
  -- what a hart decides it may do; a waiting hart's call takes effect where the others have heard it
  may-waiting : (call : Call) (heard : List Bool) → (hart_at c h).status ≡ Waiting call heard → (b : Bool) → is_ready c h heard ≡ b →
      MayAct c h (cond b (Serves call) Waits)
  may-waiting call heard e false f = tt
  may-waiting call heard e true f =
      let lt : h < length c.harts = there c h (ap is_halted e) in
      let own : call ≡ call_of h (hart_at c h) =
      (subst (λ (s : Status). IsStatus (length c.harts) h (hart_at c h) s) e (v.harts h lt).status).own in (
        own,
        λ g live apart.
            subst (λ (s : Status). HasDropped c g (cache_at c g) s) e (k.dropped g h live (λ x. apart (sym x)))
            (ready-heard c h g heard f apart live),
      )

  -- the looks come first; a hart that waits or rests looks at nothing
  enacted-status : (s : Status) → (hart_at c h).status ≡ s → IsOutcome r (enacted r c h (by_status r c h (hart_at c h) s))
  enacted-status Running e =
      let x = hart_at c h in
      let live : is_halted (hart_at c h).status ≡ false = ap is_halted e in
      let d = by_status r c h x Running in
      let seen = looked_all r h d.looks c in
      let same : seen ≡ record c { caches = seen.caches } = looked_all-caches r h d.looks c in
      let now : IsCoherent r (record c { caches = seen.caches }) =
      subst (λ (z : Core). IsCoherent r z) same (coherent-looked_all r h d.looks c k walks v.caches live (looks-status r c h x Running)) in
      let run : IsRun h x d.action = walk r c r c h x x.frames x.status (λ a b m n. IsRun h x b) (same-self r c x) (run-leaves r c h x) in
      subst (λ (z : Core). IsOutcome r (acted r z h x d.action)) (sym same)
      (acted-outcome r (record c { caches = seen.caches }) h now walks
      (valid-caches c seen.caches v (keeps-looked_all r h d.looks c).caches) live d.action
      (run-may (record c { caches = seen.caches }) h d.action run))
  enacted-status (Waiting call heard) e =
      let b = is_ready c h heard in
      acted-outcome r c h k walks v (ap is_halted e) (cond b (Serves call) Waits) (may-waiting call heard e b refl)
  enacted-status (Halted code) e = λ new follows. coherent-none r new c follows k

  pub enacted-outcome : IsOutcome r (enacted r c h (decide r c h))
  enacted-outcome = enacted-status (hart_at c h).status refl

-- a hart that isn't halted hears first
coherent-heard_first : (r : Reads) (c : Core) (h : ℕ) → IsCoherent r c → length c.caches ≡ length c.harts → (b : Bool)
    → is_halted (hart_at c h).status ≡ b →
    IsCoherent r (cond b c (hears h c))
coherent-heard_first r c h k count true e = k
coherent-heard_first r c h k count false e = coherent-hears r c h k count e

coherent-counted : (r : Reads) (c : Core) → IsCoherent r c → IsCoherent r (counted c)
coherent-counted r c k =
    coherent-same r c (counted c) 0 (record {
      hart = refl;
      cache = refl;
      harts = λ g apart. refl;
      caches = λ g apart. refl;
      ranges = λ call.
          refl;
    }) k

-- a turn
pub turned-outcome : (r : Reads) (c : Core) (h : ℕ) → IsCoherent r c → WalksAgree r c.size → IsValid c → IsOutcome r (turned r c h)
turned-outcome r c h k walks v =
    let f = counted c in
    let vf : IsValid f = valid-turns c (c.turns + 1) v in
    enacted-outcome r (heard_first f h) h
    (coherent-heard_first r f h (coherent-counted r c k) v.caches (is_halted (hart_at f h).status) refl)
    (subst (λ (n : ℕ). WalksAgree r n) (sym (keeps-heard_first f h).size) walks) (valid-heard_first f h vf)
