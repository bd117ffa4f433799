-- The deeds of a running hart: each part of a turn makes what the model's action makes, and leaves all fitting.
use Rattle.std.proofs.Common.{◌≡◌, ℕ, ◌<◌, Bool, true, false, List, [], length, refl, sym, ap, subst, ◌∙◌, arith, Option, Some, None}
use Rattle.std.proofs.Common.{unwrap_or}
use Rattle.std.specs.Prelude.{slice_set}
use Rattle.std.proofs.lemmas.List.{length-set}
use Rattle.mx_table.specs.Tables.{IsDomain}
use Rattle.mx_check.specs.Conditions.{MayLook}
use Rattle.mx_check.specs.Harts.{Kept, kept_at, at_hart, leaves_domain}
use Rattle.mx_check.specs.Harts.{halts as counts_as_halted}
use Rattle.mx_model.specs.declared.values.Frame.{Frame}
use Rattle.mx_model.specs.declared.values.Note.TheVariants as N
use Rattle.mx_model.specs.declared.values.TurnKind.TheVariants as T
use Rattle.mx_model.specs.Checks.{empties_places}
use Rattle.mx_model.specs.Effect.{next, reg, written}
use Rattle.mx_model.specs.Gates.{nearest, top}
use Rattle.mx_model.specs.State.{Halted, with_hart}
use Rattle.mx_model.specs.State.{Hart as Seen}
use Rattle.mx_model.specs.Turn.{Traps, Bounces, Crosses, Returns, fault_answer, given_up, over_frame}
use Rattle.mx_model.specs.Turn.{crossed as crossed_in, killed as killed_in}
use Rattle.mx_supervisor.specs.Served.{range_of}
use Rattle.mx_machine.specs.declared.hart.Hart.{Hart}
use Rattle.mx_machine.specs.Actions.{crossed, dead_after, fallen, gives_up_kept, killed, kills_by, returned, with_step}
use Rattle.mx_machine.specs.Harts.{hart_among, is_halted, is_waiting, seen}
use Rattle.mx_machine.specs.Held.{Held, behind, rest_of}
use Rattle.mx_machine.specs.Made.{IsMade, core_in, made_by}
use Rattle.mx_machine.specs.Steps.{enters, gives_up_over, goes, returns_by}
use Rattle.mx_machine.specs.Ties.{Fits, IsTied, MayAct, MayRun}
use Rattle.mx_machine.proofs.CoreLaws.{FlyAlike, core-kept, core-left, core-step}
use Rattle.mx_machine.proofs.FitLaws.{IsChange, changed, count-step, fits-change, others-step, own-step}
use Rattle.mx_machine.proofs.HartsAt.{hart-in}
use Rattle.mx_machine.proofs.HomeLaws.{IsHere, core-killed, stack-behind}

-- what is known of a running hart
pub kept-there : (m : Held) (h : ℕ) → MayAct m h → h < length m.parts.harts
kept-there m h a = omega (arith, a.there, a.fits.count)

pub here : (m : Held) (d : ℕ) → Fits m → IsDomain m.parts.maps d → IsHere m d
here m d f p = record { low = p.first; high = omega (arith, p.last, f.sound.heaps) }

pub running-free : (m : Held) (h : ℕ) → MayRun m h → (kept_at m.parts.harts h).flight ≡ None
running-free m h r = search (arith, m.parts, m.harts, m.parts.harts, r.runs, r.act.fits.ties)

pub running-kept : (m : Held) (h : ℕ) → MayRun m h → (kept_at m.parts.harts h).halted ≡ false
running-kept m h r = (r.act.fits.ties h).halted ∙ ap is_halted r.runs

pub may-look : (m : Held) (h : ℕ) → MayRun m h → MayLook h (hart_among m.harts h).domain m.parts.harts
may-look m h r = search (arith, kept-there, running-kept, running-free, r.act.fits.ties)

-- the checker's step for hart h leaves the others' calls in flight
fly-step : (kept : List Kept) (h : ℕ) (step : Kept → Kept) → FlyAlike h (at_hart h step kept) kept
fly-step kept h step i ne = ap (λ (k : Kept). k.flight) (others-step kept h step i ne)

-- a change of hart h by steps of its own
step-fits : (m : Held) (h : ℕ) (x : Hart) (step : Kept → Kept) (dead : List Bool) → MayAct m h → length dead ≡ 64 →
    IsTied (range_of m.parts) h x (step (kept_at m.parts.harts h)) → is_waiting x.progress ≡ false →
    Fits (changed m h x (at_hart h step m.parts.harts) m.parts.ram dead m.waiting)
step-fits m h x step dead a e tie w =
    let kept = at_hart h step m.parts.harts in
    let c : IsChange m h x kept m.parts.ram dead m.waiting = record {
      fits = a.fits;
      there = a.there;
      count = count-step m.parts.harts h step;
      others = λ i ne. others-step m.parts.harts h step i ne;
      tied = subst (λ (k : Kept). IsTied (range_of m.parts) h x k) (sym (own-step m.parts.harts h step (kept-there m h a))) tie;
      bytes = refl;
      deads = e;
      quiet = λ q. (q, w);
    } in
    fits-change m h x kept m.parts.ram dead m.waiting c

-- a fault
dead-count : (dead : List Bool) (d : ℕ) (b : Bool) → length (dead_after dead d b) ≡ length dead
dead-count dead d true = length-set dead d true
dead-count dead d false = refl

fall-tied : (m : Held) (h cause : ℕ) (o : Option Frame) → MayRun m h →
    IsTied (range_of m.parts) h (gives_up_over cause (hart_among m.harts h) o) (gives_up_kept o (kept_at m.parts.harts h))
fall-tied m h cause None r = record { halted = refl; flight = running-free m h r; domain = (r.act.fits.ties h).domain }
fall-tied m h cause (Some f) r = record { halted = running-kept m h r; flight = running-free m h r; domain = tt }

fall-still : (cause : ℕ) (x : Hart) (o : Option Frame) → is_waiting (gives_up_over cause x o).progress ≡ false
fall-still cause x None = refl
fall-still cause x (Some f) = refl

pub fits-trap : (m : Held) (h cause : ℕ) → MayRun m h → Fits (fallen h cause (killed (hart_among m.harts h).domain cause m))
fits-trap m h cause r = search (arith, step-fits, r.act, dead-count, fall-tied, fall-still)

fall-core : (m : Held) (h cause : ℕ) (o : Option Frame) → MayRun m h →
    let x = hart_among m.harts h in
    core_in (changed m h (gives_up_over cause x o) (at_hart h (gives_up_kept o) m.parts.harts) m.parts.ram
    (dead_after m.dead x.domain (kills_by m x.domain cause)) m.waiting)
    ≡ given_up (killed_in x.domain cause (core_in m)) h (seen h x (kept_at m.parts.harts h)) cause o
fall-core m h cause None r =
    let x = hart_among m.harts h in
    let k = killed x.domain cause m in
    let s = seen h x (kept_at m.parts.harts h) in
    let end : Seen = record s { status = Halted None } in
    core-step k h (gives_up_over cause x None) (record m.parts { harts = at_hart h counts_as_halted m.parts.harts })
    (fly-step m.parts.harts h counts_as_halted)
    ∙ ap (with_hart h end) (core-kept (rest_of k) m.parts h counts_as_halted refl
    ∙ core-killed m x.domain cause r.act.fits (here m x.domain r.act.fits r.act.domain))
fall-core m h cause (Some f) r =
    let x = hart_among m.harts h in
    let k = killed x.domain cause m in
    let y = gives_up_over cause x (Some f) in
    let end : Seen = seen h y (kept_at m.parts.harts h) in
    core-step k h y (record m.parts { harts = at_hart h leaves_domain m.parts.harts }) (fly-step m.parts.harts h leaves_domain)
    ∙ ap (with_hart h end) (core-left (rest_of k) m.parts h
    ∙ ap (empties_places h) (core-killed m x.domain cause r.act.fits (here m x.domain r.act.fits r.act.domain)))

pub made-trap : (m : Held) (h cause value : ℕ) → MayRun m h →
    let x = hart_among m.harts h in
    IsMade m (fallen h cause (killed x.domain cause m))
    (record { bytes = []; note = Some (N.Fault m.steps h x.domain x.pc (record { cause = cause; value = value })) }) T.Trapped
    (made_by m h (Traps cause value))
made-trap m h cause value r = search (arith, hart-in, fall-core)

-- a dead target
pub fits-bounce : (m : Held) (h pc value : ℕ) → MayRun m h → Fits (with_step h (goes (slice_set (hart_among m.harts h).regs 10 value) pc) m)
fits-bounce m h pc value r =
    let x = hart_among m.harts h in
    let c : IsChange m h (goes (slice_set x.regs 10 value) pc x) m.parts.harts m.parts.ram m.dead m.waiting = record {
      fits = r.act.fits;
      there = r.act.there;
      count = refl;
      others = λ i ne. refl;
      tied = record { halted = running-kept m h r; flight = running-free m h r; domain = (r.act.fits.ties h).domain };
      bytes = refl;
      deads = r.act.fits.dead;
      quiet = λ q. (q, refl);
    } in
    fits-change m h (goes (slice_set x.regs 10 value) pc x) m.parts.harts m.parts.ram m.dead m.waiting c

pub made-bounce : (m : Held) (h link : ℕ) → MayRun m h → link ≡ reg (hart_among m.harts h).regs 1 →
    IsMade m (with_step h (goes (slice_set (hart_among m.harts h).regs 10 (fault_answer 20)) link) m) (record { bytes = []; note = None })
    T.Returned (made_by m h Bounces)
made-bounce m h link r l = search (arith, m.harts, core-step, m.parts, hart-in)

-- a crossing
pub fits-cross : (m : Held) (h target : ℕ) → MayRun m h → Fits (crossed h target m)
fits-cross m h target r = search (arith, step-fits, r.act, r.act.fits.dead, running-kept, running-free)

pub made-cross : (m : Held) (h target : ℕ) → MayRun m h → IsDomain m.parts.maps target →
    IsMade m (crossed h target m) (record { bytes = []; note = None }) T.Crossed (made_by m h (Crosses target))
made-cross m h target r t =
    let x = hart_among m.harts h in
    let own = behind m.stacks target h in
    let stack = unwrap_or (nearest x.frames target) own in
    let y = enters target stack x in
    record {
      core = core-step m h y (record m.parts { harts = at_hart h leaves_domain m.parts.harts }) (fly-step m.parts.harts h leaves_domain)
          ∙ ap (with_hart h (seen h y (kept_at m.parts.harts h))) (core-left (rest_of m) m.parts h)
          ∙ ap (λ (a : ℕ). empties_places h (with_hart h (seen h (enters target (unwrap_or (nearest x.frames target) a) x)
          (kept_at m.parts.harts h)) (core_in m)))
          (sym (stack-behind m target h r.act.fits (here m target r.act.fits t)))
          ∙ sym (ap (λ (s : Seen). crossed_in (core_in m) h s target) (hart-in m h));
      maps = refl;
      owners = refl;
      console = refl;
      note = refl;
      kind = refl;
    }

-- a return over the top frame
pub fits-return : (m : Held) (h rd : ℕ) (f : Frame) → MayRun m h → top (hart_among m.harts h).frames ≡ Some f → Fits (returned h rd m)
fits-return m h rd f r e =
    let x = hart_among m.harts h in
    subst (λ (o : Option Frame). Fits (changed m h (returns_by rd x o) (at_hart h leaves_domain m.parts.harts) m.parts.ram m.dead
    m.waiting)) (sym e)
    (step-fits m h (returns_by rd x (Some f)) leaves_domain m.dead r.act r.act.fits.dead
    (record { halted = running-kept m h r; flight = running-free m h r; domain = tt }) refl)

pub made-return : (m : Held) (h rd : ℕ) (f : Frame) → MayRun m h → top (hart_among m.harts h).frames ≡ Some f →
    IsMade m (returned h rd m) (record { bytes = []; note = None }) T.Returned (made_by m h (Returns rd f))
made-return m h rd f r e =
    let x = hart_among m.harts h in
    let y = returns_by rd x (Some f) in
    record {
      core = ap (λ (o : Option Frame). core_in (changed m h (returns_by rd x o) (at_hart h leaves_domain m.parts.harts) m.parts.ram m.dead
          m.waiting)) e
          ∙ core-step m h y (record m.parts { harts = at_hart h leaves_domain m.parts.harts }) (fly-step m.parts.harts h leaves_domain)
          ∙ ap (with_hart h (seen h y (kept_at m.parts.harts h))) (core-left (rest_of m) m.parts h)
          ∙ sym (ap (λ (s : Seen). over_frame (core_in m) h s f (written s.regs rd (next s.pc))) (hart-in m h));
      maps = refl;
      owners = refl;
      console = refl;
      note = refl;
      kind = refl;
    }
