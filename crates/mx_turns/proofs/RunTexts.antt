-- Runs turn by turn, and their texts through the buffers.
use Rattle.std.proofs.Common.{◌≡◌, ℕ, zero, suc, ◌+◌, ◌-◌, ◌<◌, ◌≤◌, Bool, true, false, ◌⊎◌, List, [], ◌++◌, option_to_list, Option, Some}
use Rattle.std.proofs.Common.{None, Ok, Err, Result, cond, refl, sym, ap, subst, ◌∙◌, inl, inr, append_assoc, arith}
use Rattle.std.proofs.lemmas.Bool.{or_from, or_left, or_right}
use Rattle.std.proofs.lemmas.List.{append-nil}
use Rattle.std.proofs.lemmas.Grind.{flat_map-append}
use Rattle.mx_words.proofs.OptionLaws.{withheld}
use Rattle.mx_model.specs.Events.{Events}
use Rattle.mx_model.specs.declared.values.TurnKind.{TurnKind}
use Rattle.mx_model.specs.declared.values.TurnKind.TheVariants as K
use Rattle.mx_model.specs.Run.{Schedule, hart_of, is_over, all_halted, is_stopped, made_of, turn, run, flat_kind, flat_made}
use Rattle.mx_laws.proofs.QuietLaws.{adds-turned, end-turned}
use Rattle.mx_machine.specs.declared.views.Stretch.{Stretch}
use Rattle.mx_machine.specs.Turning.{IsStretch, IsTold, turns_of}
use Rattle.mx_machine.proofs.StepLaws.{is-turn}
use Rattle.mx_model.specs.declared.values.Note.{Note}
use Rattle.mx_model.specs.Reads.{flat_reads}
use Rattle.mx_model.specs.Run.{flat_turn}
use Rattle.mx_model.specs.State.{State, Flat, flat}
use Rattle.mx_model.proofs.RunLaws.{run-add}
use Rattle.mx_model.proofs.RunSteps.{run-going, run-stopped}
use Rattle.mx_model.proofs.KeepLaws.{keeps-turned}
use Rattle.mx_report.specs.Lines.{note_line}
use Rattle.mx_turns.specs.declared.fault.SinkFault.{SinkFault}
use Rattle.mx_turns.specs.declared.fault.SinkFault.TheVariants as F
use Rattle.mx_turns.specs.Rows.{EndsOrStops, IsOver}
use Rattle.mx_turns.specs.Running.{named, Places, Moves, HasTexts, HasRun, RunsOrStops, StopsAt, Begins, IsLater, IsRow, IsTurnOf, GoesOn}
use Rattle.mx_turns.specs.Running.{ShowsOrStops, KeepsShape, may_tell, adds_by, told_by}
use Rattle.mx_turns.specs.declared.turns.Telling.{Telling}
use Rattle.mx_turns.specs.declared.turns.Telling.TheVariants as telling
use Rattle.mx_turns.specs.Runs.{note_lines}
use Rattle.mx_turns.proofs.Sinking.{moves_nothing, moves_moves, moves_breaks}

-- a run of n turns, of which i made it stop
pub run_ends : (schedule : Schedule) (i n : ℕ) (s : State) → i ≤ n → is_stopped schedule (run schedule i s) ≡ true
    → run schedule n s ≡ run schedule i s
run_ends schedule i n s few e =
    let whole : n ≡ i + (n - i) = omega (arith, few) in
    ap (λ k. run schedule k s) whole ∙ run-add schedule i (n - i) s ∙ run-stopped schedule (n - i) (run schedule i s) e

-- a run of one turn more
pub run_more : (schedule : Schedule) (i : ℕ) (s : State) (h : ℕ) → is_stopped schedule (run schedule i s) ≡ false
    → h ≡ hart_of schedule (run schedule i s).core
    → run schedule (i + 1) s ≡ turn (run schedule i s) h
run_more schedule i s h e is = run-add schedule i 1 s ∙ run-going schedule zero (run schedule i s) e ∙ ap (turn (run schedule i s)) (sym is)

-- whether a run has stopped
pub stops_halted : (schedule : Schedule) (s : State) → all_halted s.core ≡ true → is_stopped schedule s ≡ true
stops_halted schedule s e = or_left (all_halted s.core) (is_over schedule s.core.turns) e

named_some : (b : Bool) (h k : ℕ) → cond b None (Some h) ≡ Some k → (b ≡ false) × (k ≡ h)
named_some true h k e = cc
named_some false h k e = (refl, cc)

pub stops_over : (schedule : Schedule) (s : State) → named schedule s.core ≡ None → is_stopped schedule s ≡ true
stops_over schedule s e = or_right (all_halted s.core) (is_over schedule s.core.turns)
    (withheld (is_over schedule s.core.turns) (hart_of schedule s.core) e)

pub goes_on : (schedule : Schedule) (s : State) (h : ℕ) → all_halted s.core ≡ false → named schedule s.core ≡ Some h
    → (is_stopped schedule s ≡ false) × (h ≡ hart_of schedule s.core)
goes_on schedule s h halted e =
    let n = named_some (is_over schedule s.core.turns) (hart_of schedule s.core) h e in
    (or_from (all_halted s.core) (is_over schedule s.core.turns) halted n.0, n.1)

-- what is after the texts of a state in those of a later one
pub record Grows (s f : State) : Type 0 where
  pub more : List ℕ
  pub console : f.console ≡ s.console ++ more
  pub lines : List ℕ
  pub notes : note_lines f.notes ≡ note_lines s.notes ++ lines

grows_none : (s : State) → Grows s s
grows_none s = record { more = []; console = sym (append-nil s.console); lines = []; notes = sym (append-nil (note_lines s.notes)) }

-- what a run tells after a turn
pub turn_lines : (tells : Telling) (s : State) (h : ℕ) → told_by tells (turn s h) ≡ told_by tells s ++ adds_by tells (made_of s h).note
turn_lines telling.Notes s h = flat_map-append note_line s.notes (option_to_list (made_of s h).note)
turn_lines telling.Nothing s h = refl

grows_turn : (s f : State) (h : ℕ) → Grows (turn s h) f → Grows s f
grows_turn s f h g = record {
  more = (made_of s h).console ++ g.more;
  console = g.console ∙ append_assoc s.console (made_of s h).console g.more;
  lines = adds_by telling.Notes (made_of s h).note ++ g.lines;
  notes = g.notes ∙ ap (λ t. t ++ g.lines) (turn_lines telling.Notes s h)
      ∙ append_assoc (note_lines s.notes) (adds_by telling.Notes (made_of s h).note) g.lines;
}

-- runs only append
grows_run : (schedule : Schedule) (n : ℕ) (s : State) → Grows s (run schedule n s)
grows_run schedule zero s = grows_none s
grows_run schedule (suc n) s =
    elim (is_stopped schedule s) as (λ b. is_stopped schedule s ≡ b → Grows s (run schedule (suc n) s)) [
      | true ↦ λ t. subst (λ (f : State). Grows s f) (sym (run-stopped schedule (suc n) s t)) (grows_none s)
      | false ↦ λ f. subst (λ (u : State). Grows s u) (sym (run-going schedule n s f))
          (grows_turn s _ (hart_of schedule s.core) (grows_run schedule n (turn s (hart_of schedule s.core))))
    ] refl

-- a run of n turns goes on after its first i turns
pub grows_on : (schedule : Schedule) (i n : ℕ) (s : State) → i ≤ n → Grows (run schedule i s) (run schedule n s)
grows_on schedule i n s few =
    let whole : n ≡ i + (n - i) = omega (arith, few) in
    subst (λ (f : State). Grows (run schedule i s) f) (sym (ap (λ k. run schedule k s) whole ∙ run-add schedule i (n - i) s))
    (grows_run schedule (n - i) (run schedule i s))

-- a turn was made, and its console bytes and these lines were put through the buffers
pub record Makes (s : State) (hart : ℕ) (line : List ℕ) (machine : Flat) (before now : Places) : Type 0 where
  pub state : machine ≡ flat (turn s hart)
  pub console : Moves before.shown before.console now.console now.shown (made_of s hart).console
  pub report : Moves before.told before.report now.report now.told line

-- the run begins
pub run_begins : (tells : Telling) (s : State) (machine : Flat) (places : Places) → Begins s machine places
    → HasRun tells s machine places places
run_begins telling.Notes s machine places b = record {
  state = b.state;
  console = rw (b.shown, b.console) (moves_nothing places.console);
  report = rw (b.told, b.notes) (moves_nothing places.report);
}
run_begins telling.Nothing s machine places b = record {
  state = b.state;
  console = rw (b.shown, b.console) (moves_nothing places.console);
  report = rw b.told (moves_nothing places.report);
}

-- one more turn was made
pub texts_make : (s : State) (lines line : List ℕ) (h : ℕ) (m k : Flat) (before mid now : Places) → HasTexts s lines m before mid
    → Makes s h line k mid now
    → HasTexts (turn s h) (lines ++ line) k before now
texts_make s lines line h m k before mid now r t = record {
  state = t.state;
  console = moves_moves before.console mid.console now.console mid.shown s.console (made_of s h).console r.console now.shown t.console;
  report = moves_moves before.report mid.report now.report mid.told lines line r.report now.told t.report;
}

pub run_makes : (tells : Telling) (s : State) (h : ℕ) (m k : Flat) (before mid now : Places) → HasRun tells s m before mid
    → Makes s h (adds_by tells (made_of s h).note) k mid now
    → HasRun tells (turn s h) k before now
run_makes tells s h m k before mid now r t =
    subst (λ (lines : List ℕ). HasTexts (turn s h) lines k before now) (sym (turn_lines tells s h))
    (texts_make s (told_by tells s) (adds_by tells (made_of s h).note) h m k before mid now r t)

-- one more turn was made, and what it adds couldn't be put
pub texts_stop : (states : ℕ → State) (lines : ℕ → List ℕ) (made : ℕ) (text line : List ℕ) (m k : Flat) (before mid now : Places)
    (which : SinkFault)
    → HasTexts (states made) (lines made) m before mid → k ≡ flat (states (made + 1))
    → (states (made + 1)).console ≡ (states made).console ++ text → lines (made + 1) ≡ lines made ++ line
    → ShowsOrStops {A = Unit {0}} text line mid now (Err which) → StopsAt states lines made k before now which
texts_stop states lines made text line m k before mid now F.Console r state console report e =
    let breaks = moves_breaks before.console mid.console now.console mid.shown (states made).console text r.console e.0 in
    (state, (breaks.0, rw (← console) at breaks.1, breaks.2), rw (e.1, e.2) r.report)
texts_stop states lines made text line m k before mid now F.Report r state console report e =
    let breaks = moves_breaks before.report mid.report now.report mid.told (lines made) line r.report e.1 in
    let shown = moves_moves before.console mid.console now.console mid.shown (states made).console text r.console now.shown e.0 in
    (state, (breaks.0, rw (← report) at breaks.1, breaks.2), rw console shown)
texts_stop states lines made text line m k before mid now F.Dump r state console report e = absurd e

-- what turns keep and count
pub later_none : (f : Flat) → IsLater f 0 f
later_none f = record { turns = omega arith; kind = refl; limit = refl; buffer = refl; modules = refl; harts = refl }

pub later_turn : (f g k : Flat) (n m h : ℕ) → IsLater f n g → k ≡ flat_turn g h → m ≡ n + 1 → IsLater f m k
later_turn f g k n m h l is more =
    let t = keeps-turned (flat_reads g) g.core h in
    rw is (record {
      turns = omega (arith, t.turns, l.turns, more);
      kind = t.kind ∙ l.kind;
      limit = t.limit ∙ l.limit;
      buffer = t.buffer ∙ l.buffer;
      modules = t.modules ∙ l.modules;
      harts = t.harts ∙ l.harts;
    })

pub later_later : (f g k : Flat) (n m : ℕ) → IsLater f n g → IsLater g m k → IsLater f (n + m) k
later_later f g k n m a b = record {
  turns = omega (arith, a.turns, b.turns);
  kind = b.kind ∙ a.kind;
  limit = b.limit ∙ a.limit;
  buffer = b.buffer ∙ a.buffer;
  modules = b.modules ∙ a.modules;
  harts = b.harts ∙ a.harts;
}

pub later_all : (h : ℕ) (f : Flat) (n : ℕ) → IsLater f n (turns_of h f n)
later_all h f zero = later_none f
later_all h f (suc n) = later_turn f (turns_of h f n) (turns_of h f (suc n)) n (suc n) h (later_all h f n) refl (omega arith)

pub later_row : (f k : Flat) (h most : ℕ) (events : Events) (stretch : Stretch) → IsStretch f h most k events stretch
    → (n : ℕ) × (n ≤ most) × IsLater f n k × (stretch.ran + 1 ≡ n)
later_row f k h most events stretch is =
    let few = is.few in (
      stretch.ran + 1,
      omega (arith, few),
      later_turn f (turns_of h f stretch.ran) k stretch.ran (stretch.ran + 1) h
          (later_all h f stretch.ran) is.turn refl,
      refl,
    )

-- a turn that neither traps nor calls
pub turn_goes_on : (f g : Flat) (h : ℕ) (events : Events) (k : TurnKind) → g ≡ flat_turn f h → IsTold (flat_made f h) events
    → k ≡ flat_kind f h → may_tell k ≡ false
    → GoesOn f.core events g.core
turn_goes_on f g h events k is told kind quiet =
    let e = ap may_tell (sym kind) ∙ quiet in
    let adds = adds-turned (flat_reads f) f.core h e in
    let end = end-turned (flat_reads f) f.core h e in
    record {
      bytes = told.bytes ∙ adds.console;
      note = told.note ∙ adds.note;
      going = λ going. ap (λ (x : Flat). all_halted x.core) is ∙ end
          ∙ going;
    }

-- a turn of a flat state is one of each state of which it is the flat state
pub turn_of : (f g : Flat) (h : ℕ) (events : Events) (s : State) → g ≡ flat_turn f h → IsTold (flat_made f h) events → f ≡ flat s
    → IsTurnOf s h g events
turn_of f g h events s is told e =
    let turn = is-turn f g h events (flat_kind f h) is told refl s e in
    record { state = turn.turn; bytes = turn.told.bytes; note = turn.told.note }

-- a turn was made, and what it added was put
pub makes_shown : (tells : Telling) (A : Type 0) (a : A) (s : State) (h : ℕ) (m : Flat) (events : Events) (before now : Places)
    → IsTurnOf s h m events
    → ShowsOrStops events.bytes (adds_by tells events.note) before now (Ok a) → Makes s h (adds_by tells (made_of s h).note) m before now
makes_shown tells A a s h m events before now is shows = record {
  state = is.state;
  console = rw is.bytes at shows.0;
  report = rw is.note at shows.1;
}

-- or couldn't be put
pub makes_stopped : (tells : Telling) (A : Type 0) (s : State) (h : ℕ) (m : Flat) (events : Events) (before now : Places)
    (which : SinkFault) → IsTurnOf s h m events
    → ShowsOrStops {A = A} events.bytes (adds_by tells events.note) before now (Err which)
    → ShowsOrStops {A = Unit {0}} (made_of s h).console (adds_by tells (made_of s h).note) before now (Err which)
makes_stopped tells A s h m events before now F.Console is stops = rw is.bytes at stops
makes_stopped tells A s h m events before now F.Report is stops = rw (is.bytes, is.note) at stops
makes_stopped tells A s h m events before now F.Dump is stops = stops

pub keeps_later : (f g : Flat) (n : ℕ) → IsLater f n g → KeepsShape f g
keeps_later f g n l = record { kind = l.kind; limit = l.limit; buffer = l.buffer; modules = l.modules }

-- what a machine tells of a run's next turn
module _ (schedule : Schedule) (i : ℕ) (s : State) (m : Flat) (is : m ≡ flat (run schedule i s)) where
  core_is : m.core ≡ (run schedule i s).core
  core_is = ap (λ (f : Flat). f.core) is

  goes_to : (h : ℕ) → all_halted m.core ≡ false → named schedule m.core ≡ Some h → run schedule (i + 1) s ≡ turn (run schedule i s) h
  goes_to h halted name =
      let go = goes_on schedule (run schedule i s) h (ap all_halted (sym core_is) ∙ halted) (ap (named schedule) (sym core_is) ∙ name) in
      run_more schedule i s h go.0 go.1

  is_over_so : IsOver schedule m.core → is_stopped schedule (run schedule i s) ≡ true
  is_over_so (inl halted) = stops_halted schedule (run schedule i s) (ap all_halted (sym core_is) ∙ halted)
  is_over_so (inr over) = stops_over schedule (run schedule i s) (ap (named schedule) (sym core_is) ∙ over)

-- a run that makes no turn any more is what one of more turns is, and so are lines that stay where it has stopped
pub run_over : (schedule : Schedule) (s : State) (i n k : ℕ) (m : Flat) → m ≡ flat (run schedule (i + k) s) → k ≤ n
    → (k ≡ n) ⊎ IsOver schedule m.core → run schedule (i + n) s ≡ run schedule (i + k) s
run_over schedule s i n k m is few (inl e) = ap (λ j. run schedule (i + j) s) (sym e)
run_over schedule s i n k m is few (inr over) = run_ends schedule (i + k) (i + n) s (omega (arith, few))
    (is_over_so schedule (i + k) s m is over)

lines_over : (schedule : Schedule) (s : State) (lines : ℕ → List ℕ)
    → ((j n : ℕ) → j ≤ n → is_stopped schedule (run schedule j s) ≡ true → lines n ≡ lines j) → (i n k : ℕ) (m : Flat)
    → m ≡ flat (run schedule (i + k) s) → k ≤ n → (k ≡ n) ⊎ IsOver schedule m.core → lines (i + n) ≡ lines (i + k)
lines_over schedule s lines stay i n k m is few (inl e) = ap (λ j. lines (i + j)) (sym e)
lines_over schedule s lines stay i n k m is few (inr over) = stay (i + k) (i + n) (omega (arith, few))
    (is_over_so schedule (i + k) s m is over)

pub texts_over : {A : Type 0} (schedule : Schedule) (s : State) (lines : ℕ → List ℕ)
    → ((j n : ℕ) → j ≤ n → is_stopped schedule (run schedule j s) ≡ true → lines n ≡ lines j) → (i n : ℕ) (m : Flat)
    (before now : Places) (r : Result A SinkFault)
    → EndsOrStops (λ j. HasTexts (run schedule j s) (lines j) m before now) (λ j which.
    StopsAt (λ k. run schedule k s) lines j m before now which) schedule i n m.core r
    → RunsOrStops (λ j. run schedule j s) lines (i + n) m before now r
texts_over schedule s lines stay i n m before now (Ok a) (k, few, end, has) =
    let more = run_over schedule s i n k m has.state few end in
    let told : lines (i + n) ≡ lines (i + k) = lines_over schedule s lines stay i n k m has.state few end in
    subst (λ (u : State). HasTexts u (lines (i + n)) m before now) (sym more)
    (subst (λ (t : List ℕ). HasTexts (run schedule (i + k) s) t m before now) (sym told) has)
texts_over schedule s lines stay i n m before now (Err which) stops = stops

-- turns that carry out an instruction each: after them some hart can go on
going_along : (f : Flat) (h : ℕ) → all_halted f.core ≡ false → (n : ℕ) → ((j : ℕ) → j < n → flat_kind (turns_of h f j) h ≡ K.Ran)
    → all_halted (turns_of h f n).core ≡ false
going_along f h going zero ran = going
going_along f h going (suc n) ran =
    let g = turns_of h f n in
    end-turned (flat_reads g) g.core h (ap may_tell (ran n (omega arith)))
    ∙ going_along f h going n (λ j below. ran j (omega (arith, below)))

-- a state that turns which added nothing led to from another one
pub record Along (s u : State) (f : Flat) : Type 0 where
  pub state : f ≡ flat u
  pub console : u.console ≡ s.console
  pub notes : u.notes ≡ s.notes

along_more : (s u : State) (h : ℕ) (f k : Flat) (events : Events) → IsTurnOf u h k events → GoesOn f.core events k.core → Along s u f
    → Along s (turn u h) k
along_more s u h f k events is quiet a = record {
  state = is.state;
  console = ap (λ t. u.console ++ t) (sym is.bytes ∙ quiet.bytes) ∙ append-nil u.console ∙ a.console;
  notes = ap (λ (o : Option Note). u.notes ++ option_to_list o) (sym is.note ∙ quiet.note) ∙ append-nil u.notes ∙ a.notes;
}

has_along : (tells : Telling) (s u : State) (f g : Flat) (before at : Places) → HasRun tells s f before at → Along s u g
    → HasRun tells u g before at
has_along telling.Notes s u f g before at r a = record {
  state = a.state;
  console = rw a.console r.console;
  report = subst (λ (t : List ℕ). Moves [] before.report at.report at.told t) (ap note_lines (sym a.notes)) r.report;
}
has_along telling.Nothing s u f g before at r a = record { state = a.state; console = rw a.console r.console; report = r.report }

-- turns of one hart in a row from a state of a run
module _ (schedule : Schedule) (f : Flat) (going : all_halted f.core ≡ false) (h turns : ℕ) (row : IsRow schedule f.core turns h turns)
    (i : ℕ) (s : State) (is_flat : f ≡ flat (run schedule i s)) where
  -- the next of them is one of the run
  next_along : (n m : ℕ) → m ≡ i + n + 1 → n < turns → all_halted (turns_of h f n).core ≡ false
      → turns_of h f n ≡ flat (run schedule (i + n) s) → run schedule m s ≡ turn (run schedule (i + n) s) h
  next_along n m next few on reached =
      let g = turns_of h f n in
      let l = later_all h f n in
      ap (λ j. run schedule j s) next ∙ goes_to schedule (i + n) s g reached h on (row.each n few g.core l.turns l.harts)

  run_along : (n : ℕ) → n < turns → ((j : ℕ) → j < n → flat_kind (turns_of h f j) h ≡ K.Ran)
      → Along (run schedule i s) (run schedule (i + n) s) (turns_of h f n)
  run_along zero few ran =
      let same : i + 0 ≡ i = omega arith in
      subst (λ (u : State). Along (run schedule i s) u f) (sym (ap (λ j. run schedule j s) same))
      (record { state = is_flat; console = refl; notes = refl })
  run_along (suc n) few ran =
      let g = turns_of h f n in
      let k = flat_turn g h in
      let u = run schedule (i + n) s in
      let ran_before : (j : ℕ) → j < n → flat_kind (turns_of h f j) h ≡ K.Ran = λ j below. ran j (omega (arith, below)) in
      let few_before : n < turns = omega (arith, few) in
      let next : i + suc n ≡ i + n + 1 = omega arith in
      let events : Events = record { bytes = (flat_made g h).console; note = (flat_made g h).note } in
      let told : IsTold (flat_made g h) events = record { bytes = refl; note = refl } in
      let reached = run_along n few_before ran_before in
      let quiet = turn_goes_on g k h events K.Ran refl told (sym (ran n (omega arith))) refl in
      subst (λ (v : State). Along (run schedule i s) v k) (sym
      (next_along n (i + suc n) next few_before (going_along f h going n ran_before) reached.state))
      (along_more (run schedule i s) u h g k events (turn_of g k h events u refl told reached.state) quiet reached)

  -- the last of them
  module _ (k : Flat) (events : Events) (stretch : Stretch) (is : IsStretch f h turns k events stretch) where
    pub last_along : Along (run schedule i s) (run schedule (i + stretch.ran) s) (turns_of h f stretch.ran)
    last_along = run_along stretch.ran is.few is.ran

    pub last_is : IsTurnOf (run schedule (i + stretch.ran) s) h k events
    last_is = turn_of (turns_of h f stretch.ran) k h events (run schedule (i + stretch.ran) s) is.turn is.told last_along.state

    last_next : (n : ℕ) → n ≡ i + stretch.ran + 1 → run schedule n s ≡ turn (run schedule (i + stretch.ran) s) h
    last_next n next = next_along stretch.ran n next is.few (going_along f h going stretch.ran is.ran) last_along.state

    pub last_more : run schedule (i + (stretch.ran + 1)) s ≡ turn (run schedule (i + stretch.ran) s) h
    last_more = last_next (i + (stretch.ran + 1)) (omega arith)

    last_quiet : may_tell stretch.last ≡ false → GoesOn (turns_of h f stretch.ran).core events k.core
    last_quiet quiet = turn_goes_on (turns_of h f stretch.ran) k h events stretch.last is.turn is.told is.kind quiet

    -- what it adds was put, or wasn't, or is nothing
    module _ (tells : Telling) (before at : Places) (has : HasRun tells (run schedule i s) f before at) where
      last_has : HasRun tells (run schedule (i + stretch.ran) s) (turns_of h f stretch.ran) before at
      last_has = has_along tells (run schedule i s) (run schedule (i + stretch.ran) s) f (turns_of h f stretch.ran) before at has last_along

      pub row_quiet : may_tell stretch.last ≡ false → HasRun tells (run schedule (i + (stretch.ran + 1)) s) k before at
      row_quiet quiet =
          let u = run schedule (i + stretch.ran) s in
          rw last_more
          (has_along tells (run schedule i s) (turn u h) f k before at has
          (along_more (run schedule i s) u h (turns_of h f stretch.ran) k events last_is (last_quiet quiet) last_along))

      pub row_shown : (A : Type 0) (a : A) (now : Places) → ShowsOrStops events.bytes (adds_by tells events.note) at now (Ok a)
          → HasRun tells (run schedule (i + (stretch.ran + 1)) s) k before now
      row_shown A a now shows =
          let u = run schedule (i + stretch.ran) s in
          rw last_more (run_makes tells u h (turns_of h f stretch.ran) k before at now last_has
          (makes_shown tells A a u h k events at now last_is shows))

      pub row_stopped : (A : Type 0) (now : Places) (which : SinkFault)
          → ShowsOrStops {A = A} events.bytes (adds_by tells events.note) at now (Err which)
          → (n : ℕ) × (n < i + turns) × StopsAt (λ j. run schedule j s) (λ j. told_by tells (run schedule j s)) n k before now which
      row_stopped A now which stops =
          let u = run schedule (i + stretch.ran) s in
          let next = last_next (i + stretch.ran + 1) refl in
          let few = is.few in (
            i + stretch.ran,
            omega (arith, few),
            texts_stop (λ n. run schedule n s) (λ n. told_by tells (run schedule n s)) (i + stretch.ran) (made_of u h).console
                (adds_by tells (made_of u h).note) (turns_of h f stretch.ran) k before at now which last_has
                (last_is.state ∙ ap flat (sym next)) (ap (λ (v : State). v.console) next) (ap (λ (v : State). told_by tells v) next
                ∙ turn_lines tells u h) (makes_stopped tells A u h k events at now which last_is stops),
          )

-- turns of which the last adds nothing: after them some hart can go on
pub goes_on_quiet : (f k : Flat) (h most : ℕ) (events : Events) (stretch : Stretch) → IsStretch f h most k events stretch
    → may_tell stretch.last ≡ false → all_halted f.core ≡ false → all_halted k.core ≡ false
goes_on_quiet f k h most events stretch is quiet going =
    (turn_goes_on (turns_of h f stretch.ran) k h events stretch.last is.turn is.told is.kind quiet).going
    (going_along f h going stretch.ran is.ran)
