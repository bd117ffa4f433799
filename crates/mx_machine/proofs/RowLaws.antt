-- Turns inside a window that are counted together: what each of them may rest on, what it makes, and what ends them.
use Rattle.std.proofs.Common.{◌≡◌, ℕ, ◌+◌, ◌<◌, ◌%◌, false, List, [], length, length-set, refl, sym, ap, subst, ◌∙◌, arith, Some}
use Rattle.mx_isa.specs.declared.inst.Inst.{Inst}
use Rattle.mx_table.specs.Tables.{IsDomain, map_of}
use Rattle.mx_check.specs.Conditions.{IsAtHand}
use Rattle.mx_check.specs.Harts.{kept_at}
use Rattle.mx_core.specs.declared.outcome.Outcome.{Outcome}
use Rattle.mx_core.specs.declared.outcome.Outcome.TheVariants as O
use Rattle.mx_core.specs.Bus.{load_at}
use Rattle.mx_core.specs.Exec.{action_of, regs_after, touches_of}
use Rattle.mx_core.specs.Memo.{quick}
use Rattle.mx_core.proofs.QuickLaws.{AreAway, touches-away}
use Rattle.mx_model.specs.declared.values.TurnKind.{TurnKind}
use Rattle.mx_model.specs.declared.values.TurnKind.TheVariants as T
use Rattle.mx_model.specs.Effect.{Effect, effect}
use Rattle.mx_model.specs.Events.{Events, no_events}
use Rattle.mx_model.specs.Reads.{Reads}
use Rattle.mx_model.specs.Run.{flat_made, flat_turn}
use Rattle.mx_model.specs.State.{Core, Flat}
use Rattle.mx_model.specs.Turn.{turned}
use Rattle.mx_model.specs.Valid.{IsValid}
use Rattle.mx_coherence.specs.Coherence.{AreWhole, flat_coherent}
use Rattle.mx_machine.specs.declared.hart.Progress.TheVariants as P
use Rattle.mx_machine.specs.declared.window.Window.{Window}
use Rattle.mx_machine.specs.Actions.{after_instruction, after_unfetched, counted, effect_for, outcome_for, perm_for}
use Rattle.mx_machine.specs.declared.hart.Hart.{Hart}
use Rattle.mx_machine.specs.Harts.{hart_among, stepped}
use Rattle.mx_machine.specs.Held.{Held, meaning}
use Rattle.mx_machine.specs.Made.{IsMade, hart_in, made_by}
use Rattle.mx_machine.specs.Rows.{EndsBy, HasRunOn, IsQuick, IsRowTo, NamesOwn, tallied}
use Rattle.mx_machine.specs.Steps.{Stops, instructed}
use Rattle.mx_machine.specs.Ties.{Fits, IsWhole, MayRun, RunsAlive}
use Rattle.mx_machine.specs.Windows.{IsOpen, IsWindow}
use Rattle.mx_machine.proofs.CaseLaws.{turn-running}
use Rattle.mx_machine.proofs.HearLaws.{all-quiet}
use Rattle.mx_machine.proofs.InsideLaws.{ActsInside, acts-inside}
use Rattle.mx_machine.proofs.InstructLaws.{fits-instruction, from-instruction, made-next, runs-instruction}
use Rattle.mx_machine.proofs.MayLaws.{aligned-pc, hart-there, made-now, none-flies, own-domain}
use Rattle.mx_machine.proofs.StepLaws.{whole-is}
use Rattle.mx_machine.proofs.StretchLaws.{alive-instruction, alive-now, run-more, turn-steps}
use Rattle.mx_machine.proofs.TallyLaws.{fits-untallied, instruction-tallied, length-touched, names-own, open-tallied, open-untallied}
use Rattle.mx_machine.proofs.TallyLaws.{tallied-none, there-kept}
use Rattle.mx_machine.proofs.WindowLaws.{window-counted, window-stays}

-- what an instruction inside a window may rest on, whatever number of turns is counted
pub record IsReady (m : Held) (h : ℕ) (w : Window) : Type 0 where
  pub fits : Fits m
  pub alive : RunsAlive m h
  pub domain : IsDomain m.parts.maps (hart_among m.harts h).domain
  pub aligned : (hart_among m.harts h).pc % 4 ≡ 0
  pub opened : IsWindow m h w

-- it doesn't depend on the number
pub row-ready : (old m : Held) (h n : ℕ) (w : Window) → IsRowTo old h n w (tallied h n m) → NamesOwn m h → IsReady m h w
row-ready old m h n w r own =
    let f = r.whole.fits in
    let kept = there-kept m h n f r.alive in
    record {
      fits = fits-untallied m h n kept f own;
      alive = record { there = r.alive.there; runs = r.alive.runs; alive = r.alive.alive };
      domain = own-domain (tallied h n m) h r.whole.valid f r.alive.there;
      aligned = aligned-pc (tallied h n m) h r.whole.valid r.alive.there;
      opened = record { bound = r.opened.bound; each = λ a inside. open-untallied m h n kept a (r.opened.each a inside) };
    }

-- a hart that stands in a window may run
pub open-runs : (m : Held) (h : ℕ) → Fits m → RunsAlive m h → IsDomain m.parts.maps (hart_among m.harts h).domain → m.waiting ≡ false
    → MayRun m h
open-runs m h f r d q = search (arith, all-quiet, none-flies)

-- no turns
pub row-none : (m : Held) (h : ℕ) (w : Window) → IsWhole m → RunsAlive m h → IsWindow m h w → IsRowTo m h 0 w (tallied h 0 m)
row-none m h w whole r i = search (arith, tallied-none)

-- where the fetch of an instruction of a row is at hand, in RAM of the size of its map
hand-there : (old m : Held) (h n : ℕ) (w : Window) → IsRowTo old h n w (tallied h n m) → IsOpen m h (hart_among m.harts h).pc →
    IsAtHand (length (map_of m.parts.maps (hart_among m.harts h).domain)) (kept_at m.parts.harts h).cache (hart_among m.harts h).pc
hand-there old m h n w r o =
    let d = (hart_among m.harts h).domain in
    let whole-map = r.whole.fits.sound.maps d (own-domain (tallied h n m) h r.whole.valid r.whole.fits r.alive.there) in
    subst (λ (i : ℕ). IsAtHand i (kept_at m.parts.harts h).cache (hart_among m.harts h).pc) (sym whole-map) o.at_hand

row-tallied : (old m k : Held) (h n : ℕ) (w : Window) → IsRowTo old h n w (tallied h n m) → IsOpen m h (hart_among m.harts h).pc
    → k ≡ after_unfetched h m →
    tallied h (n + 1) k ≡ after_instruction h false (counted (tallied h n m))
row-tallied old m k h n w r o after =
    ap (λ (x : Held). tallied h (n + 1) x) after
    ∙ instruction-tallied m h n r.alive.there (there-kept m h n r.whole.fits r.alive) (hand-there old m h n w r o)

pub row-own : (old m k : Held) (h n : ℕ) (w : Window) (outcome : Outcome) → IsRowTo old h n w (tallied h n m) → NamesOwn m h
    → IsQuick m h outcome k → NamesOwn k h
row-own old m k h n w outcome r own q = names-own m k h r.alive.there (there-kept m h n r.whole.fits r.alive) q.after own

length-stepped : (harts : List Hart) (h : ℕ) (step : Hart → Hart) → length (stepped h step harts) ≡ length harts
length-stepped harts h step = length-set harts h (step (hart_among harts h))

-- what the turns of a row may rest on when they are counted
pub record MayTally (old k : Held) (h n : ℕ) : Type 0 where
  pub there : h < length k.harts
  pub kept : h < length k.parts.harts
  pub own : NamesOwn k h
  pub steps : k.steps + n ≡ old.steps + n

pub row-tally : (old m : Held) (h n : ℕ) (w : Window) → IsRowTo old h n w (tallied h n m) → NamesOwn m h → MayTally old m h n
row-tally old m h n w r own = record { there = r.alive.there; kept = there-kept m h n r.whole.fits r.alive; own = own; steps = r.counted }

pub quick-tally : (old m k : Held) (h n : ℕ) (w : Window) (outcome : Outcome) → IsRowTo old h n w (tallied h n m) → NamesOwn m h
    → IsQuick m h outcome k → MayTally old k h n
quick-tally old m k h n w outcome r own q =
    let a = after_unfetched h m in
    let x = hart_among m.harts h in
    let kept = there-kept m h n r.whole.fits r.alive in
    let all : MayTally old a h n = record {
      there = subst (λ (i : ℕ). h < i) (sym (length-stepped m.harts h
          (instructed (regs_after (perm_for m x) m.parts.ram x.regs x.pc false (effect_for m x)) (outcome_for m h false)))) r.alive.there;
      kept = subst (λ (i : ℕ). h < i) (sym (length-touched m.parts h x.domain (touches_of (effect_for m x)) m.parts.harts)) kept;
      own = names-own m a h r.alive.there kept refl own;
      steps = r.counted;
    } in
    subst (λ (y : Held). MayTally old y h n) (sym q.after) all

module _ (law : (q : Reads) (c : Core) (g : ℕ) → IsValid c → IsValid (turned q c g).core)
    (stays : (e : Flat) (g : ℕ) → IsValid e.core → AreWhole e → flat_coherent e → flat_coherent (flat_turn e g)) where
  -- a turn inside a window whose instruction goes on
  on-more : (old m : Held) (h n pc : ℕ) (w : Window) (inst : Inst) → IsRowTo old h n w m → IsOpen m h (hart_among m.harts h).pc
      → outcome_for (counted m) h false ≡ O.Next pc →
      quick (load_at m.parts.ram (hart_among m.harts h).pc 4) ≡ Some inst
      → effect_for (counted m) (hart_among m.harts h) ≡ effect inst (hart_among m.harts h).regs (hart_among m.harts h).pc →
      IsRowTo old h (n + 1) w (after_instruction h false (counted m))
  on-more old m h n pc w inst r o e q eff =
      let a = acts-inside m h r.whole r.alive (counted m) refl o in
      let x = hart_among m.harts h in
      let k = after_instruction h false (counted m) in
      let whole-map = a.run.act.fits.sound.maps x.domain a.run.act.domain in
      let next = made-next (counted m) h false a.run whole-map a.plain pc e in
      let made = made-now m h r.whole P.Running r.alive.runs refl (counted m) a.after k no_events T.Ran
      (turn-running m h r.whole.fits (hart-there m h r.whole P.Running r.alive.runs refl) r.alive.runs)
      (subst (λ d. IsMade (counted m) k no_events T.Ran d) (sym a.acts) next) in
      let fits = fits-instruction (counted m) h false a.run in
      let away : AreAway (touches_of (effect_for (counted m) x)) =
      subst (λ (e : Effect). AreAway (touches_of e)) (sym eff) (touches-away (load_at m.parts.ram x.pc 4) inst x.regs x.pc q) in
      record {
        whole = whole-is m k h no_events T.Ran made law stays r.whole fits;
        alive = alive-instruction (counted m) h false a.run (alive-now m (counted m) h r.alive a.after);
        opened = window-stays (counted m) h a.run a.at_hand away w (window-counted m h w r.opened);
        counted = let one = turn-steps m k h no_events T.Ran made in omega (arith, one, r.counted);
        run = λ f j ran. subst (λ i. HasRunOn f h i k) (let s : j + n + 1 ≡ j + (n + 1) = omega arith in s)
            (run-more f h (j + n) m k no_events T.Ran (r.run f j ran) made law stays fits refl);
      }

  pub row-more : (old m k : Held) (h n pc : ℕ) (w : Window) → IsRowTo old h n w (tallied h n m) → IsQuick m h (O.Next pc) k
      → IsRowTo old h (n + 1) w (tallied h (n + 1) k)
  row-more old m k h n pc w r q =
      let open-now : IsOpen (tallied h n m) h (hart_among m.harts h).pc =
      open-tallied m h n (there-kept m h n r.whole.fits r.alive) (hart_among m.harts h).pc q.opened in
      let more = on-more old (tallied h n m) h n pc w q.inst r open-now (sym q.answered) q.known q.effect in
      subst (λ (x : Held). IsRowTo old h (n + 1) w x) (sym (row-tallied old m k h n w r q.opened q.after)) more

-- a turn whose instruction stops
pub row-ends : (old m k : Held) (h n : ℕ) (w : Window) (outcome : Outcome) → IsRowTo old h n w (tallied h n m) → IsQuick m h outcome k
    → Stops outcome →
    EndsBy (tallied h n m) h outcome (tallied h (n + 1) k)
row-ends old m k h n w outcome r q s = search (arith, open-tallied, there-kept, r.whole.fits, row-tallied, q.opened)

not-next : (o : Outcome) → ((pc : ℕ) → o ≡ O.Next pc → ⊥) → Stops o
not-next x other = grind arith

pub stops-but-next : (o : Outcome) → ((pc : ℕ) → o ≡ O.Next pc → ⊥) → Stops o
stops-but-next o other = not-next o other

-- what follows such a turn makes the turn
module _ (m now : Held) (h : ℕ) (outcome : Outcome) (e : EndsBy m h outcome now) where
  ends-acts : ActsInside m h (counted m)
  ends-acts = acts-inside m h e.whole e.alive (counted m) refl e.opened

  pub ends-made : (new : Held) (events : Events) (answer : TurnKind)
      → IsMade now new events answer (made_by now h (action_of h (hart_in now h) [] outcome)) →
      IsMade m new events answer (flat_made (meaning m) h)
  ends-made new events answer made =
      let a = ends-acts in
      let x = hart_among m.harts h in
      let n = counted m in
      let whole-map = a.run.act.fits.sound.maps x.domain a.run.act.domain in
      let there : IsMade (after_instruction h false n) new events answer
      (made_by (after_instruction h false n) h (action_of h (hart_in (after_instruction h false n) h) [] outcome)) =
      subst (λ (k : Held). IsMade k new events answer (made_by k h (action_of h (hart_in k h) [] outcome))) e.after made in
      made-now m h e.whole P.Running e.alive.runs refl n a.after new events answer
      (turn-running m h e.whole.fits (hart-there m h e.whole P.Running e.alive.runs refl) e.alive.runs)
      (subst (λ d. IsMade n new events answer d) (sym a.acts)
      (from-instruction n h false a.run whole-map a.plain new events answer outcome (sym e.answered) e.stops there))

  pub ends-runs : MayRun now h
  ends-runs = subst (λ (k : Held). MayRun k h) (sym e.after) (runs-instruction (counted m) h false ends-acts.run)
