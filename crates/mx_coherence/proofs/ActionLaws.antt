-- Coherence through an action of a hart that isn't halted.
use Rattle.std.proofs.Common.{◌≡◌, ◌≢◌, ℕ, zero, suc, ◌-◌, ◌<◌, ◌≤◌, ◌⊎◌, inl, inr, Bool, true, false, not, cond, ◌==◌, ◌&&◌, ◌||◌, List}
use Rattle.std.proofs.Common.{[], ◌∷◌, length, get_or, refl, sym, ap, subst, ◌∙◌, arith, zero-add, Option, Some, None}
use Rattle.std.specs.List.{enumerate_from, list_all}
use Rattle.std.proofs.lemmas.Bool.{and_parts, cases_lt, ne_eqb}
use Rattle.std.proofs.lemmas.List.{get_or_past, get_or-replicate}
use Rattle.std.proofs.lemmas.List.FromFn.{length-enumerate_from, get_or-enumerate_from}
use Rattle.mx_words.specs.Announced.{is_announced}
use Rattle.mx_words.specs.Bytes.{put_at}
use Rattle.mx_words.specs.Caches.{Cache, left_domain, meets, without_range}
use Rattle.mx_words.specs.Hearing.{is_in, lets_pass, nobody}
use Rattle.mx_words.specs.Ranges.{ram_base}
use Rattle.mx_words.specs.KeptSpans.{IsClear}
use Rattle.mx_model.specs.declared.values.Call.{Call}
use Rattle.mx_model.specs.declared.values.Frame.{Frame}
use Rattle.mx_model.specs.Checks.{call_range, drops, empties_places, is_halted, is_ready}
use Rattle.mx_model.specs.Effect.{next}
use Rattle.mx_model.specs.Gates.{top}
use Rattle.mx_model.specs.Reads.{Change, Reads}
use Rattle.mx_model.specs.Serve.{Served, serve, served_by, service}
use Rattle.mx_model.specs.State.{Core, Hart, Status, Running, Waiting, Halted, cache_at, hart_at, module_at, no_hart, with_hart}
use Rattle.mx_model.specs.State.{with_module}
use Rattle.mx_model.specs.Turn.{Action, Rests, Waits, Serves, Asks, Traps, Bounces, Crosses, Returns, Runs, Writes, acted, answered, asked}
use Rattle.mx_model.specs.Turn.{call_of, done, given_up, halted, is_served_now, served, trapped, with_regs}
use Rattle.mx_model.specs.Valid.{IsValid}
use Rattle.mx_model.proofs.KeepLaws.{keeps-serve, keeps-served_by}
use Rattle.mx_laws.proofs.TurnParts.{there}
use Rattle.mx_coherence.specs.Spans.{AreCurrent}
use Rattle.mx_coherence.specs.Coherence.{HasDropped, IsCoherent}
use Rattle.mx_words.proofs.SpanLaws.{each_clear, each_left, each_without}
use Rattle.mx_coherence.proofs.FollowLaws.{Follows, IsOutcome, coherent-none, current-clear}
use Rattle.mx_coherence.proofs.LookLaws.{WalksAgree}
use Rattle.mx_coherence.proofs.QuietLaws.{Quiet, quiet-served}
use Rattle.mx_coherence.proofs.AnnouncedLaws.{Drops, Named, OnHeap, Plain, Tells, announced-heap, announced-named, serve-drops, tells}
use Rattle.mx_coherence.proofs.StepLaws.{Moved, coherent-moved, coherent-same, moved-cache, moved-hart, moved-module, moved-ram}
use Rattle.mx_coherence.proofs.StepLaws.{moved-twice}

-- a status that is no call in flight, or one that nobody has heard
abbrev pub IsUnheard : Status → Type 0
IsUnheard Running = Unit {0}
IsUnheard (Waiting call heard) = (g : ℕ) → is_in heard g ≡ false
IsUnheard (Halted code) = Unit {0}

pub dropped-unheard : (c : Core) (g : ℕ) (k : Cache) (s : Status) → IsUnheard s → HasDropped c g k s
dropped-unheard c g k Running p = tt
dropped-unheard c g k (Waiting call heard) p = λ hit. let clash : true ≡ false = sym hit ∙ p g in absurd (cc)
dropped-unheard c g k (Halted code) p = tt

pub nobody_in : (g : ℕ) → is_in nobody g ≡ false
nobody_in g = by (cases_lt g 4)
  where
    by : (g < 4) ⊎ (4 ≤ g) → is_in nobody g ≡ false
    by (inl lt) = get_or-replicate 4 g false false lt
    by (inr le) = get_or_past nobody g false le

-- places emptied, and spans on a range dropped
dropped-left : (c : Core) (h : ℕ) (k : Cache) (s : Status) → HasDropped c h k s → HasDropped c h (left_domain k) s
dropped-left c h k Running p = tt
dropped-left c h k (Waiting call heard) p = λ hit. let range = call_range c call in
    each_left (λ s. meets s range.0 range.1 ≡ false) k (p hit)
dropped-left c h k (Halted code) p = tt

dropped-without : (c : Core) (h first count : ℕ) (k : Cache) (s : Status) → HasDropped c h k s
    → HasDropped c h (without_range first count k) s
dropped-without c h first count k Running p = tt
dropped-without c h first count k (Waiting call heard) p = λ hit. each_without first count k (p hit)
dropped-without c h first count k (Halted code) p = tt

-- hart h changes, its domain stays
module _ (r : Reads) (c : Core) (h : ℕ) (k : IsCoherent r c) (there : h < length c.harts) (live : is_halted (hart_at c h).status ≡ false)
    (y : Hart)
    (quiet : IsUnheard y.status) where
  pub coherent-hart : y.domain ≡ (hart_at c h).domain → IsCoherent r (with_hart h y c)
  coherent-hart same = coherent-moved r c (with_hart h y c) h y (cache_at c h) (moved-hart c h y there) (record {
    own = λ running. subst (λ (d : ℕ). AreCurrent r d (cache_at c h)) (sym same) (k.current h live);
    own_dropped = λ g running apart. k.dropped h g live apart;
    others = λ g running apart. k.current g running;
    own_call = λ g running apart. dropped-unheard c g (cache_at c g) y.status quiet;
    among = λ g i running a b apart. k.dropped g i running apart;
  })

  -- or its places are emptied
  pub coherent-empties : h < length c.caches → IsCoherent r (empties_places h (with_hart h y c))
  coherent-empties inside =
      let e = with_hart h y c in
      let m = moved-twice c e (empties_places h e) h y (hart_at e h) (cache_at c h) (left_domain (cache_at c h)) (moved-hart c h y there)
      (moved-cache e h (left_domain (cache_at c h)) inside) in
      coherent-moved r c (empties_places h e) h y (left_domain (cache_at c h))
      (subst (λ (x : Hart). Moved c (empties_places h e) h x (left_domain (cache_at c h))) (moved-hart c h y there).hart m) (record {
        own = λ running. each_left _ (cache_at c h) (k.current h live);
        own_dropped = λ g running apart. dropped-left c h (cache_at c h) (hart_at c g).status (k.dropped h g live apart);
        others = λ g running apart. k.current g running;
        own_call = λ g running apart. dropped-unheard c g (cache_at c g) y.status quiet;
        among = λ g i running a b apart. k.dropped g i running apart;
      })

-- each other hart that isn't halted has heard a call that is ready
all_pass : (test : ℕ × Hart → Bool) (xs : List (ℕ × Hart)) (i : ℕ) (d : ℕ × Hart) → i < length xs → list_all test xs ≡ true
    → test (get_or xs i d) ≡ true
all_pass test [] i d lt e = absurd (omega arith)
all_pass test (x ∷ xs) zero d lt e = (and_parts (test x) (list_all test xs) e).0
all_pass test (x ∷ xs) (suc i) d lt e = all_pass test xs i d (omega arith) (and_parts (test x) (list_all test xs) e).1

pub ready-heard : (c : Core) (h g : ℕ) (heard : List Bool) → is_ready c h heard ≡ true → g ≢ h → is_halted (hart_at c g).status ≡ false
    → is_in heard g ≡ true
ready-heard c h g heard ready apart live =
    let test : ℕ × Hart → Bool = λ p. lets_pass h heard p.0 (is_halted p.1.status) in
    let lt : g < length c.harts = there c g live in
    let e : get_or (enumerate_from 0 c.harts) g (0, no_hart) ≡ (g, hart_at c g) =
    get_or-enumerate_from 0 c.harts g (0, no_hart) lt ∙ ap (λ (n : ℕ). (n, get_or c.harts g no_hart)) (zero-add g) in
    let passes : lets_pass h heard g (is_halted (hart_at c g).status) ≡ true =
    sym (ap test e) ∙ all_pass test (enumerate_from 0 c.harts) g (0, no_hart)
    (subst (λ (n : ℕ). g < n) (sym (length-enumerate_from 0 c.harts)) lt) ready in
    sym (ap (λ b. b || is_halted (hart_at c g).status || is_in heard g) (ne_eqb g h apart) ∙ ap (λ b. false || b || is_in heard g) live)
    ∙ passes

-- no other hart that isn't halted keeps a span of the range
abbrev pub OthersClear : Core → ℕ → ℕ × ℕ → Type 0
OthersClear c h range = (g : ℕ) → is_halted (hart_at c g).status ≡ false → g ≢ h → IsClear range (cache_at c g)

-- a served call
module _ (r : Reads) (c : Core) (h : ℕ) (k : IsCoherent r c) (walks : WalksAgree r c.size) (v : IsValid c)
    (live : is_halted (hart_at c h).status ≡ false) where
  inside : h < length c.harts
  inside = there c h live

  in-caches : h < length c.caches
  in-caches = let e = v.caches in let l = there c h live in omega (arith, e, l)

  -- the hart goes on, or is halted
  quiet-with : (s : Served) → Quiet r c s → (y : Hart) → IsUnheard y.status → y.domain ≡ (hart_at c h).domain
      → IsCoherent r (with_hart h y s.core)
  quiet-with s q y unheard same =
      let e : hart_at s.core h ≡ hart_at c h = ap (λ (xs : List Hart). get_or xs h no_hart) q.harts in
      coherent-hart r s.core h q.core (subst (λ (n : ℕ). h < n) (sym (ap length q.harts)) inside)
      (ap (λ (z : Hart). is_halted z.status) e ∙ live) y unheard (same ∙ sym (ap (λ (z : Hart). z.domain) e))

  quiet-done : (s : Served) → Quiet r c s → IsOutcome r (done h (hart_at c h) s)
  quiet-done s q = λ new follows.
      coherent-none r new (done h (hart_at c h) s).core (subst (λ (o : Option Change). Follows r new o) q.change follows)
      (elim s.stop as (λ b. IsCoherent r (cond b (halted h (hart_at c h) (Some s.a0) s.core)
      (with_regs h (hart_at c h) (answered (hart_at c h) s.a0 s.a1) (next (hart_at c h).pc) s.core))) [
        | true ↦ quiet-with s q (record (hart_at c h) { status = Halted (Some s.a0) }) tt refl
        | false ↦ quiet-with s q (record (hart_at c h) {
          regs = answered (hart_at c h) s.a0 s.a1;
          pc = next (hart_at c h).pc;
          status =
              Running;
        }) tt refl
      ])

  -- after an announced call no span of the range is left, but of harts that are halted
  drops-with : (s : Served) → Drops c h s → length s.core.harts ≡ length c.harts
      → OthersClear c h (call_range c (call_of h (hart_at c h))) →
      (y : Hart) → IsUnheard y.status →
      y.domain ≡ (hart_at c h).domain → (new : Reads) → Follows r new s.change → IsCoherent new (with_hart h y s.core)
  drops-with s d count clear y unheard same new follows =
      let range = call_range c (call_of h (hart_at c h)) in
      let after = without_range range.0 range.1 (cache_at c h) in
      let e = with_hart h y s.core in
      let last : Moved s.core e h y (cache_at s.core h) = moved-hart s.core h y (subst (λ (n : ℕ). h < n) (sym count) inside) in
      let m : Moved c e h y after = moved-twice c s.core e h (hart_at c h) y after after d.core
      (subst (λ (l : Cache). Moved s.core e h y l) d.core.cache last) in
      coherent-moved new c e h y after m (record {
        own = λ running. subst (λ (n : ℕ). AreCurrent new n after) (sym same)
            (current-clear r new s.change range (hart_at c h).domain after follows d.change
            (each_without range.0 range.1 (cache_at c h) (k.current h live))
            (each_clear range.0 range.1 (cache_at c h) (k.current h live)));
        own_dropped = λ g running apart. dropped-without c h range.0 range.1 (cache_at c h) (hart_at c g).status (k.dropped h g live apart);
        others = λ g running apart. current-clear r new s.change range (hart_at c g).domain (cache_at c g) follows d.change
            (k.current g running)
            (clear g running apart);
        own_call = λ g running apart. dropped-unheard c g (cache_at c g) y.status unheard;
        among = λ g i running a b apart. k.dropped g i running apart;
      })

  drops-done : (s : Served) → Drops c h s → length s.core.harts ≡ length c.harts
      → OthersClear c h (call_range c (call_of h (hart_at c h))) →
      IsOutcome r (done h (hart_at c h) s)
  drops-done s d count clear = λ new follows.
      elim s.stop as (λ b. IsCoherent new (cond b (halted h (hart_at c h) (Some s.a0) s.core)
      (with_regs h (hart_at c h) (answered (hart_at c h) s.a0 s.a1) (next (hart_at c h).pc) s.core))) [
        | true ↦ drops-with s d count clear (record (hart_at c h) { status = Halted (Some s.a0) }) tt refl new follows
        | false ↦
            let y = record (hart_at c h) { regs = answered (hart_at c h) s.a0 s.a1; pc = next (hart_at c h).pc; status = Running } in
            drops-with s d count clear y tt refl new follows
      ]

  -- a call served, and a call made
  pub serve-outcome : (is_announced (call_of h (hart_at c h)).number ≡ true → OthersClear c h (call_range c (call_of h (hart_at c h)))) →
      IsOutcome r (served r c h (hart_at c h) (call_of h (hart_at c h)))
  serve-outcome clear = by (tells (call_of h (hart_at c h)).number)
    where
      by : Tells (call_of h (hart_at c h)).number → IsOutcome r (served r c h (hart_at c h) (call_of h (hart_at c h)))
      by (Named s e o f g) =
          let call = call_of h (hart_at c h) in
          drops-done (serve r c call)
          (serve-drops r c h v s e f in-caches (keeps-served_by s r c call).caches (announced-named r c h v s o g))
          (keeps-serve r c call).harts (clear f)
      by (OnHeap s e o f g) =
          let call = call_of h (hart_at c h) in
          drops-done (serve r c call)
          (serve-drops r c h v s e f in-caches (keeps-served_by s r c call).caches (announced-heap r c h v s o g))
          (keeps-serve r c call).harts (clear f)
      by (Plain q f) =
          let call = call_of h (hart_at c h) in
          let s = served_by (service call.number) r c call in
          quiet-done (serve r c call)
          (subst (λ (m : Served). Quiet r c m) (sym (ap (λ (b : Bool). cond b (record s { core = drops h (call_range c call) s.core }) s)
          f))
          (quiet-served r c h k walks v.caches live (service call.number) q))

  asked-outcome : (b : Bool) → is_served_now c h (call_of h (hart_at c h)) ≡ b
      → IsOutcome r (asked r c h (hart_at c h) (call_of h (hart_at c h)) b)
  asked-outcome true e = serve-outcome (λ announced g running apart.
      let call = call_of h (hart_at c h) in
      let ready : is_ready c h nobody ≡ true = sym (ap (λ (b : Bool). not b || is_ready c h nobody) announced) ∙ e in
      let clash : true ≡ false = sym (ready-heard c h g nobody ready apart running) ∙ nobody_in g in
      absurd (cc))
  asked-outcome false e = λ new follows.
      coherent-none r new _ follows
      (coherent-hart r c h k inside live (record (hart_at c h) { status = Waiting (call_of h (hart_at c h)) nobody }) (λ g. nobody_in g)
      refl)

  pub asks-outcome : (call : Call) → call ≡ call_of h (hart_at c h) → IsOutcome r (acted r c h (hart_at c h) (Asks call))
  asks-outcome call e =
      subst (λ (k : Call). IsOutcome r (acted r c h (hart_at c h) (Asks k))) (sym e)
      (asked-outcome (is_served_now c h (call_of h (hart_at c h))) refl)

  pub serves-outcome : (call : Call) → call ≡ call_of h (hart_at c h) → OthersClear c h (call_range c call) →
      IsOutcome r (acted r c h (hart_at c h) (Serves call))
  serves-outcome call e clear =
      subst (λ (k : Call). IsOutcome r (acted r c h (hart_at c h) (Serves k))) (sym e)
      (serve-outcome (λ announced. subst (λ (k : Call). OthersClear c h (call_range c k)) e clear))

  -- a fault
  coherent-given_up : (e : Core) → IsCoherent r e → h < length e.harts → h < length e.caches → is_halted (hart_at e h).status ≡ false →
      (cause : ℕ) (o : Option Frame) →
      IsCoherent r (given_up e h (hart_at e h) cause o)
  coherent-given_up e p there own running cause None = coherent-hart r e h p there running (record (hart_at e h) { status = Halted None })
      tt refl
  coherent-given_up e p there own running cause (Some frame) = coherent-empties r e h p there running _ tt own

  coherent-trapped : (cause value : ℕ) → IsCoherent r (trapped c h (hart_at c h) cause value).core
  coherent-trapped cause value =
      let d = (hart_at c h).domain in
      let m = module_at c d in
      let e = with_module d (record m { dead = true }) c in
      elim (m.kills && not (cause == 20)) as (λ b. IsCoherent r (given_up (cond b e c) h (hart_at c h) cause (top (hart_at c h).frames))) [
        | true ↦
            let p = coherent-same r c e h (moved-module c h d (record m { dead = true }) refl) k in
            coherent-given_up e p inside in-caches live cause (top (hart_at c h).frames)
        | false ↦ coherent-given_up c k inside in-caches live cause (top (hart_at c h).frames)
      ]

  pub trapped-outcome : (cause value : ℕ) → IsOutcome r (trapped c h (hart_at c h) cause value)
  trapped-outcome cause value = λ new follows. coherent-none r new (trapped c h (hart_at c h) cause value).core follows
      (coherent-trapped cause value)

-- what an action of hart h stands on
abbrev pub MayAct : Core → ℕ → Action → Type 0
MayAct c h (Serves call) = (call ≡ call_of h (hart_at c h)) × OthersClear c h (call_range c call)
MayAct c h (Asks call) = call ≡ call_of h (hart_at c h)
MayAct c h action = Unit {0}

-- an action
pub acted-outcome : (r : Reads) (c : Core) (h : ℕ) → IsCoherent r c → WalksAgree r c.size → IsValid c
    → is_halted (hart_at c h).status ≡ false →
    (a : Action) → MayAct c h a → IsOutcome r (acted r c h (hart_at c h) a)
acted-outcome r c h k walks v live Rests p = λ new follows. coherent-none r new c follows k
acted-outcome r c h k walks v live Waits p = λ new follows. coherent-none r new c follows k
acted-outcome r c h k walks v live (Serves call) p = serves-outcome r c h k walks v live call p.0 p.1
acted-outcome r c h k walks v live (Asks call) p = asks-outcome r c h k walks v live call p
acted-outcome r c h k walks v live (Traps cause value) p = trapped-outcome r c h k walks v live cause value
acted-outcome r c h k walks v live Bounces p = λ new follows.
    coherent-none r new _ follows (coherent-hart r c h k (there c h live) live _ tt refl)
acted-outcome r c h k walks v live (Crosses target) p = λ new follows.
    coherent-none r new _ follows (coherent-empties r c h k (there c h live) live _ tt (let e = v.caches in let l = there c h live in
    omega (arith, e, l)))
acted-outcome r c h k walks v live (Returns rd frame) p = λ new follows.
    coherent-none r new _ follows (coherent-empties r c h k (there c h live) live _ tt (let e = v.caches in let l = there c h live in
    omega (arith, e, l)))
acted-outcome r c h k walks v live (Runs regs pc) p = λ new follows.
    coherent-none r new _ follows (coherent-hart r c h k (there c h live) live _ tt refl)
acted-outcome r c h k walks v live (Writes address size value) p = λ new follows.
    let ram = put_at c.ram (address - ram_base) size value in
    coherent-none r new _ follows
    (coherent-hart r (record c { ram = ram }) h (coherent-same r c (record c { ram = ram }) h (moved-ram c h ram) k) (there c h live) live
    (record (hart_at c h) { pc = next (hart_at c h).pc; status = Running }) tt refl)
