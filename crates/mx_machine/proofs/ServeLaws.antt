-- A served call: the machine after it is the state after the model's call, and fits.
use Rattle.std.proofs.Common.{◌≡◌, ◌≢◌, ℕ, ◌-◌, ◌<◌, ◌≤◌, ◌⊎◌, inl, inr, Bool, true, false, cond, List, [], ◌∷◌, length, get_or, set, refl}
use Rattle.std.proofs.Common.{sym, ap, subst, ◌∙◌, arith, Option, Some, None}
use Rattle.std.specs.Prelude.{IfSome}
use Rattle.std.proofs.lemmas.Bool.{cases_eq}
use Rattle.std.proofs.lemmas.List.{get_or-set_same, get_or-set_other, length-set}
use Rattle.mx_words.specs.Announced.{is_announced}
use Rattle.mx_words.specs.FirstFit.{Area}
use Rattle.mx_check.specs.Harts.{Kept, kept_at, at_hart}
use Rattle.mx_check.specs.Harts.{halts as counts_as_halted}
use Rattle.mx_model.specs.declared.values.Call.{Call}
use Rattle.mx_model.specs.Checks.{Look, looked_all}
use Rattle.mx_model.specs.Reads.{Reads}
use Rattle.mx_model.specs.Serve.{Served, Service, judged, serve, served_by, write_from, write_looks, exchange_from, with_blocks, look_of}
use Rattle.mx_model.specs.Serve.{arg_word, alloc_from}
use Rattle.mx_model.specs.State.{Core, Module, no_module, module_at}
use Rattle.mx_model.proofs.SetLaws.{part-set}
use Rattle.mx_model.proofs.ValidParts.{same-modules-looked_all}
use Rattle.mx_model.specs.State.{Halted, with_hart}
use Rattle.mx_model.specs.State.{Hart as Seen}
use Rattle.mx_model.specs.declared.values.Note.TheVariants as N
use Rattle.mx_model.specs.declared.values.TurnKind.TheVariants as T
use Rattle.mx_model.specs.Effect.{next}
use Rattle.mx_model.specs.Events.{Events}
use Rattle.mx_model.specs.Turn.{answered, halted, served, with_regs}
use Rattle.mx_supervisor.specs.declared.answer.Answer.{Answer}
use Rattle.mx_supervisor.specs.Looks.{BarsAlike, KeepsHarts}
use Rattle.mx_supervisor.specs.Parts.{Parts, IsSound, core_of}
use Rattle.mx_supervisor.specs.Served.{IsServed, KeepsSizes, flight_after, range_of}
use Rattle.mx_machine.specs.declared.hart.Hart.{Hart}
use Rattle.mx_machine.specs.Harts.{no_held_hart, hart_among, is_waiting, own_call}
use Rattle.mx_machine.specs.Held.{Held, rest_of}
use Rattle.mx_machine.specs.Made.{IsMade, core_in, hart_in, reads_of}
use Rattle.mx_machine.specs.Serving.{IsServing}
use Rattle.mx_machine.specs.Steps.{halts, takes_answer}
use Rattle.mx_machine.specs.Ties.{Fits, FliesWhileWaiting, IsTied}
use Rattle.mx_machine.proofs.CoreLaws.{core-kept, core-step}
use Rattle.mx_machine.proofs.FitLaws.{count-step, others-step, own-step, sound-changed}
use Rattle.mx_machine.proofs.HartsAt.{hart-in}
use Rattle.mx_supervisor.proofs.Modules.{module-heap}

-- no call changes a heap area
abbrev pub SameHeaps : Core → Core → Type 0
SameHeaps c e = (d : ℕ) → (module_at e d).heap ≡ (module_at c d).heap

heaps-refl : (c : Core) → SameHeaps c c
heaps-refl c d = refl

heaps-looked : (r : Reads) (h : ℕ) (ls : List Look) (c : Core) → SameHeaps c (looked_all r h ls c)
heaps-looked r h ls c d = ap (λ (ms : List Module). (get_or ms (d - 1) no_module).heap) (same-modules-looked_all r h ls c)

heaps-judged : (c e : Core) (o : Option ℕ) (s : Served) → SameHeaps c e → SameHeaps c s.core → SameHeaps c (judged e o s).core
heaps-judged c e (Some n) s p q = p
heaps-judged c e None s p q = q

heaps-blocks : (call : Call) (blocks : List Area) (c : Core) → SameHeaps c (with_blocks call blocks c)
heaps-blocks call blocks c d = part-set (λ (m : Module). m.heap) c.modules (call.domain - 1) (d - 1)
    (record (module_at c call.domain) { blocks = blocks }) no_module refl

heaps-alloc : (c : Core) (call : Call) (first : ℕ) (o : Option ℕ) → SameHeaps c (alloc_from c call first o).core
heaps-alloc c call first (Some n) d = refl
heaps-alloc c call first None d = heaps-blocks call _ c d

heaps-written : (r : Reads) (c : Core) (call : Call) (o : Option ℕ) → SameHeaps c (write_from r c call o).core
heaps-written r c call (Some n) = heaps-refl c
heaps-written r c call None =
    let e = looked_all r call.hart (write_looks r call) c in
    heaps-judged c e _ _ (heaps-looked r call.hart (write_looks r call) c) (heaps-looked r call.hart (write_looks r call) c)

heaps-exchanged : (r : Reads) (c : Core) (call : Call) (o : Option ℕ) → SameHeaps c (exchange_from r c call o).core
heaps-exchanged r c call (Some n) = heaps-refl c
heaps-exchanged r c call None =
    let e = looked_all r call.hart (look_of call.domain (arg_word call) ∷ []) c in
    heaps-judged c e _ _ (heaps-refl c) (heaps-refl c)

heaps-served : (k : Service) (r : Reads) (c : Core) (call : Call) → SameHeaps c (served_by k r c call).core
heaps-served x r c call =
    grind (arith, heaps-judged, heaps-refl, heaps-written, heaps-alloc, heaps-blocks, heaps-exchanged)

heaps-ended : (c : Core) (call : Call) (s : Served) (b : Bool) → SameHeaps c s.core → (s' : Served) → SameHeaps c s'.core
    → SameHeaps c (cond b s' s).core
heaps-ended c call s x p t q = grind arith

pub heaps-serve : (r : Reads) (c : Core) (call : Call) → SameHeaps c (serve r c call).core
heaps-serve r c call = search (arith, heaps-served, heaps-ended)

-- the ranges of calls stay
pub range-served : (rest : Core) (p q : Parts) (e : Core) (call : Call) → q.size ≡ p.size → core_of rest q ≡ e
    → SameHeaps (core_of rest p) e →
    range_of q call ≡ range_of p call
range-served rest p q e call size core same = search (arith, q.heaps, p.heaps, module-heap, call.number, p.size)

-- the same of the call's own hart
pub serving-bars : (m : Held) (h : ℕ) (call : Call) → IsServing m h call → BarsAlike (rest_of m) m.parts call.hart
serving-bars m h call v = subst (λ i. BarsAlike (rest_of m) m.parts i) (sym (ap (λ (c : Call). c.hart) v.own)) v.bars

-- what is made of equal machines with equal events
pub served-moved : (m m' n n' : Held) (e e' : Events) (h : ℕ) (call : Call) → m ≡ m' → n ≡ n' → e ≡ e' →
    IsMade m n e T.Called (served (reads_of m) (core_in m) h (hart_in m h) call)
    → IsMade m' n' e' T.Called (served (reads_of m') (core_in m') h (hart_in m' h) call)
served-moved m m' n n' e e' h call p q r i = grind arith

-- a machine whose supervisor served a call of hart h, with this answer
module _ (m : Held) (h : ℕ) (call : Call) (q : Parts) (bytes : List ℕ) (a : Answer) (v : IsServing m h call)
    (d : IsServed (rest_of m) m.parts q bytes a (serve (reads_of m) (core_in m) call))
    (k : KeepsHarts call (flight_after call m.parts.harts) m.parts.harts q.harts) (z : KeepsSizes m.parts q) (sound : IsSound q) where
  abbrev s : Served
  s = serve (reads_of m) (core_in m) call

  abbrev x : Hart
  x = hart_among m.harts h

  hart-is : call.hart ≡ h
  hart-is = ap (λ (c : Call). c.hart) v.own

  others-kept : (i : ℕ) → i ≢ h → kept_at q.harts i ≡ kept_at m.parts.harts i
  others-kept i ne = k.others i (λ e. ne (e ∙ hart-is))

  fly-alike : (i : ℕ) → i ≢ h → (kept_at q.harts i).flight ≡ (kept_at m.parts.harts i).flight
  fly-alike i ne = ap (λ (y : Kept). y.flight) (others-kept i ne)

  ranges-stay : (c : Call) → range_of q c ≡ range_of m.parts c
  ranges-stay c = range-served (rest_of m) m.parts q s.core c z.size d.core (heaps-serve (reads_of m) (core_in m) call)

  own-halted : (kept_at q.harts h).halted ≡ false
  own-halted = ap (λ i. (kept_at q.harts i).halted) (sym hart-is) ∙ k.halted ∙ ap (λ i. (kept_at m.parts.harts i).halted) hart-is
      ∙ v.running

  flight-ended : (b : Bool) → is_announced call.number ≡ b → cond b None (kept_at m.parts.harts call.hart).flight ≡ None
  flight-ended x e = grind arith

  pub own-flight : (kept_at q.harts h).flight ≡ None
  own-flight = ap (λ i. (kept_at q.harts i).flight) (sym hart-is) ∙ k.flight ∙ flight-ended (is_announced call.number) refl

  own-domain : IfSome (kept_at q.harts h).domain (λ e. e ≡ x.domain)
  own-domain = search (arith, k.domain, q.harts, hart-is, m.parts.harts)

  -- all fits with another hart h, where what the checker keeps of it is tied
  served-fits : (y : Hart) (kept : List Kept) → length kept ≡ length q.harts → ((i : ℕ) → i ≢ h → kept_at kept i ≡ kept_at q.harts i) →
      IsTied (range_of q) h y (kept_at kept h) → is_waiting y.progress ≡ false →
      Fits (record m { parts = record q { harts = kept }; harts = set m.harts h y })
  served-fits y kept count others tie w = record {
    sound = sound-changed q kept q.ram sound refl;
    count = length-set m.harts h y ∙ v.count ∙ sym k.count ∙ sym count;
    few = subst (λ n. n ≤ 4) (sym (length-set m.harts h y)) v.few;
    stacks = v.stacks ∙ v.sound.heaps ∙ sym z.modules ∙ sym sound.heaps;
    dead = v.dead;
    ties = λ i. by i (cases_eq i h);
    quiet = λ e i. still e i (cases_eq i h);
  }
    where
      by : (i : ℕ) → (i ≡ h) ⊎ (i ≢ h) → IsTied (range_of q) i (hart_among (set m.harts h y) i) (kept_at kept i)
      by i (inl e) =
          subst (λ j. IsTied (range_of q) j (hart_among (set m.harts h y) j) (kept_at kept j)) (sym e)
          (subst (λ (t : Hart). IsTied (range_of q) h t (kept_at kept h)) (sym (get_or-set_same m.harts h y no_held_hart v.there)) tie)
      by i (inr ne) =
          let t = v.others i ne in
          let l = hart_among m.harts i in
          let u = kept_at m.parts.harts i in
          let moved : IsTied (range_of q) i l u = record {
            halted = t.halted;
            flight = subst (λ (r : ℕ × ℕ). FliesWhileWaiting r u.flight l.progress) (sym (ranges-stay (own_call i l))) t.flight;
            domain = t.domain;
          } in
          subst (λ (t : Hart). IsTied (range_of q) i t (kept_at kept i)) (sym (get_or-set_other m.harts h i y no_held_hart ne))
          (subst (λ (u : Kept). IsTied (range_of q) i l u) (sym (others i ne ∙ others-kept i ne)) moved)

      still : m.waiting ≡ false → (i : ℕ) → (i ≡ h) ⊎ (i ≢ h) → is_waiting (hart_among (set m.harts h y) i).progress ≡ false
      still e i (inl p) =
          ap (λ j. is_waiting (hart_among (set m.harts h y) j).progress) p
          ∙ ap (λ (t : Hart). is_waiting t.progress) (get_or-set_same m.harts h y no_held_hart v.there) ∙ w
      still e i (inr ne) = ap (λ (t : Hart). is_waiting t.progress) (get_or-set_other m.harts h i y no_held_hart ne) ∙ v.quiet e i

  -- the hart goes on
  pub fits-answered : Fits (record m { parts = q; harts = set m.harts h (takes_answer a.a0 a.a1 (hart_among m.harts h)) })
  fits-answered = served-fits (takes_answer a.a0 a.a1 x) q.harts refl (λ i ne. refl)
      (record { halted = own-halted; flight = own-flight; domain = own-domain }) refl

  pub made-answered : a.stop ≡ false →
      IsMade m (record m { parts = q; harts = set m.harts h (takes_answer a.a0 a.a1 (hart_among m.harts h)) })
      (record { bytes = bytes; note = None }) T.Called
      (served (reads_of m) (core_in m) h (hart_in m h) call)
  made-answered e = grind (arith, x, m.parts.harts, core-step, a.a0, a.a1, fly-alike, s.a0, hart-in, s.core.turns)

  -- or it ended
  pub fits-ended : Fits (record m {
    parts = record q { harts = at_hart h counts_as_halted q.harts };
    harts =
        set m.harts h (halts (Some a.a0) (hart_among m.harts h));
  })
  fits-ended =
      let there : h < length q.harts = omega (arith, v.there, v.count, k.count) in
      let own = own-step q.harts h counts_as_halted there in
      served-fits (halts (Some a.a0) x) (at_hart h counts_as_halted q.harts) (count-step q.harts h counts_as_halted) (λ i ne.
      others-step q.harts h counts_as_halted i ne)
      (subst (λ (u : Kept). IsTied (range_of q) h (halts (Some a.a0) x) u) (sym own)
      (record { halted = refl; flight = own-flight; domain = own-domain })) refl

  pub made-ended : a.stop ≡ true →
      IsMade m (record m {
        parts = record q { harts = at_hart h counts_as_halted q.harts };
        harts =
            set m.harts h (halts (Some a.a0) (hart_among m.harts h));
      })
      (record { bytes = bytes; note = Some (N.Exit m.steps h (hart_among m.harts h).domain a.a0) }) T.Called
      (served (reads_of m) (core_in m) h (hart_in m h) call)
  made-ended e =
      let ends : s.stop ≡ true = sym d.stop ∙ e in
      let l = hart_in m h in
      let off : ℕ → Seen = λ a0. record { regs = x.regs; pc = x.pc; domain = x.domain; frames = x.frames; status = Halted (Some a0) } in
      let p = record q { harts = at_hart h counts_as_halted q.harts } in
      record {
        core = core-step m h (halts (Some a.a0) x) p (λ i ne. ap (λ (y : Kept). y.flight) (others-step q.harts h counts_as_halted i ne)
            ∙ fly-alike i ne)
            ∙ ap (with_hart h (off a.a0)) (core-kept (rest_of m) q h counts_as_halted refl ∙ d.core)
            ∙ ap (λ (n : ℕ). with_hart h (off n) s.core) d.a0
            ∙ sym (ap (λ (y : Seen). halted h y (Some s.a0) s.core) (hart-in m h))
            ∙ sym (ap (λ (b : Bool). cond b (halted h l (Some s.a0) s.core) (with_regs h l (answered l s.a0 s.a1) (next l.pc) s.core))
            ends);
        maps = d.maps;
        owners = d.owners;
        console = d.console;
        note = ap (λ (n : ℕ). Some (N.Exit n h x.domain a.a0)) (ap (λ (c : Core). c.turns) d.core)
            ∙ ap (λ (n : ℕ). Some (N.Exit s.core.turns h x.domain n)) d.a0
            ∙ sym (ap (λ (y : Seen). Some (N.Exit s.core.turns h y.domain s.a0)) (hart-in m h))
            ∙ sym (ap (λ (b : Bool). cond b (Some (N.Exit s.core.turns h l.domain s.a0)) None) ends);
        kind = refl;
      }
