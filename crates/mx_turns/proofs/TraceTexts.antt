-- Traces turn by turn, and their texts.
use Rattle.std.proofs.Common.{◌≡◌, ℕ, zero, suc, ◌+◌, ◌-◌, ◌<◌, ◌≤◌, Bool, true, false, ◌&&◌, nat_lt, if◌then◌else◌, ◌⊎◌, List, [], ◌++◌}
use Rattle.std.proofs.Common.{length, Option, Some, None, Ok, Err, refl, sym, ap, subst, ◌∙◌, inl, inr, append_assoc, arith}
use Rattle.std.proofs.lemmas.Bool.{lt-ltb}
use Rattle.std.proofs.lemmas.List.{append-nil}
use Rattle.mx_model.specs.declared.values.Note.{Note}
use Rattle.mx_model.specs.declared.values.TurnKind.{TurnKind}
use Rattle.mx_model.specs.Reads.{Reads, reads, flat_reads}
use Rattle.mx_model.specs.Run.{Schedule, all_halted, hart_of, is_stopped, flat_made, flat_turn, made_of, run, turn}
use Rattle.mx_model.specs.Turn.{Made}
use Rattle.mx_model.specs.State.{Core, State, Flat, flat}
use Rattle.mx_model.proofs.FlatLaws.{reads-flat, made-flat, flat-turn}
use Rattle.mx_model.proofs.KeepLaws.{keeps-turned}
use Rattle.mx_model.proofs.RunSteps.{run-going, run-stopped}
use Rattle.mx_tail.specs.Tail.{sent}
use Rattle.mx_laws.specs.Standing.{standing_inst}
use Rattle.mx_trace.specs.Did.{Deed, deed}
use Rattle.mx_trace.specs.declared.did.Turned.{Turned}
use Rattle.mx_trace.specs.declared.did.Held.{Held}
use Rattle.mx_trace.specs.declared.lines.Seen.{Seen}
use Rattle.mx_turns.specs.declared.fault.SinkFault.{SinkFault}
use Rattle.mx_turns.specs.declared.fault.SinkFault.TheVariants as F
use Rattle.mx_turns.specs.declared.tracing.Lines.{Lines}
use Rattle.mx_turns.specs.Running.{named, Breaks, Moves, Places, HasTexts, ShowsOrStops, StopsAt}
use Rattle.mx_turns.specs.Tracing.{deed_of, held_at, held_of, line_by, line_from, line_text, flat_line_from, seen_at, seen_of, trace}
use Rattle.mx_turns.proofs.RunTexts.{Makes, goes_on, run_more, texts_make, texts_stop}

-- a trace of one turn more, where the run has stopped, or hasn't
abbrev next_of : Schedule → Lines → ℕ → State → Bool → List ℕ
next_of p lines n s b = elim b [ true ↦ [] | false ↦ line_from lines s (hart_of p s.core) ++ trace p lines n (turn s (hart_of p s.core)) ]

pub trace-stopped : (p : Schedule) (lines : Lines) (n : ℕ) (s : State) → is_stopped p s ≡ true → trace p lines n s ≡ []
trace-stopped p lines zero s e = refl
trace-stopped p lines (suc n) s e = ap (next_of p lines n s) e

pub trace-going : (p : Schedule) (lines : Lines) (n : ℕ) (s : State) → is_stopped p s ≡ false
    → trace p lines (suc n) s ≡ line_from lines s (hart_of p s.core) ++ trace p lines n (turn s (hart_of p s.core))
trace-going p lines n s e = ap (next_of p lines n s) e

-- the trace of n turns and then of m is that of n + m
pub trace-add : (p : Schedule) (lines : Lines) (n m : ℕ) (s : State)
    → trace p lines (n + m) s ≡ trace p lines n s ++ trace p lines m (run p n s)
trace-add p lines zero m s = let e : 0 + m ≡ m = omega arith in rw e refl
trace-add p lines (suc n) m s =
    let e : suc n + m ≡ suc (n + m) = omega arith in
    let h = hart_of p s.core in
    elim (is_stopped p s) as (λ b. is_stopped p s ≡ b → trace p lines (suc n + m) s ≡ trace p lines (suc n) s
    ++ trace p lines m (run p (suc n) s)) [
      | true ↦ λ t.
          trace-stopped p lines (suc n + m) s t
          ∙ sym (ap (λ (x : State). trace p lines m x) (run-stopped p (suc n) s t) ∙ trace-stopped p lines m s t)
          ∙ ap (λ xs. xs ++ trace p lines m (run p (suc n) s)) (sym (trace-stopped p lines (suc n) s t))
      | false ↦ λ f.
          ap (λ k. trace p lines k s) e ∙ trace-going p lines (n + m) s f
          ∙ ap (λ xs. line_from lines s h ++ xs) (trace-add p lines n m (turn s h))
          ∙ sym (append_assoc (line_from lines s h) (trace p lines n (turn s h)) (trace p lines m (run p n (turn s h))))
          ∙ ap (λ xs. xs ++ trace p lines m (run p n (turn s h))) (sym (trace-going p lines n s f))
          ∙ ap (λ (x : State). trace p lines (suc n) s ++ trace p lines m x) (sym (run-going p n s f))
    ] refl

-- one more turn
pub trace_more : (p : Schedule) (lines : Lines) (i : ℕ) (s : State) (h : ℕ) → is_stopped p (run p i s) ≡ false
    → h ≡ hart_of p (run p i s).core
    → trace p lines (i + 1) s ≡ trace p lines i s ++ line_from lines (run p i s) h
trace_more p lines i s h e is =
    trace-add p lines i 1 s ∙ ap (λ xs. trace p lines i s ++ xs) (trace-going p lines zero (run p i s) e
    ∙ append-nil (line_from lines (run p i s) (hart_of p (run p i s).core))
    ∙ ap (line_from lines (run p i s)) (sym is))

-- a run of n turns, of which i made it stop
pub trace_ends : (p : Schedule) (lines : Lines) (i n : ℕ) (s : State) → i ≤ n → is_stopped p (run p i s) ≡ true
    → trace p lines n s ≡ trace p lines i s
trace_ends p lines i n s few e =
    let whole : n ≡ i + (n - i) = omega (arith, few) in
    ap (λ k. trace p lines k s) whole ∙ trace-add p lines i (n - i) s
    ∙ ap (λ xs. trace p lines i s ++ xs) (trace-stopped p lines (n - i) (run p i s) e) ∙ append-nil (trace p lines i s)

-- the first lines are those of the first turns
pub trace_grows : (p : Schedule) (lines : Lines) (i n : ℕ) (s : State) → i ≤ n
    → (more : List ℕ) × (trace p lines n s ≡ trace p lines i s ++ more)
trace_grows p lines i n s few =
    let whole : n ≡ i + (n - i) = omega (arith, few) in
    (trace p lines (n - i) (run p i s), ap (λ k. trace p lines k s) whole ∙ trace-add p lines i (n - i) s)

-- turns below the step have no line
line_none : (s : State) (lines : Lines) (h : ℕ) → s.core.turns + 1 < lines.from → line_from lines s h ≡ []
line_none s lines h few = rw (lt-ltb (s.core.turns + 1) lines.from few) refl

pub trace_none : (p : Schedule) (lines : Lines) (n : ℕ) (s : State) → s.core.turns + n < lines.from → trace p lines n s ≡ []
trace_none p lines zero s few = refl
trace_none p lines (suc n) s few =
    let h = hart_of p s.core in
    elim (is_stopped p s) as (λ b. is_stopped p s ≡ b → trace p lines (suc n) s ≡ []) [
      | true ↦ λ t. trace-stopped p lines (suc n) s t
      | false ↦ λ f.
          let turns = (keeps-turned (reads s) s.core h).turns in
          trace-going p lines n s f ∙ ap (λ xs. xs ++ trace p lines n (turn s h)) (line_none s lines h (omega (arith, few)))
          ∙ trace_none p lines n (turn s h) (omega (arith, few, turns))
    ] refl

pub trace_quiet : (p : Schedule) (lines : Lines) (n i : ℕ) (s : State) → (n ≡ 0) ⊎ (s.core.turns + n < lines.from) → i ≤ n
    → trace p lines i s ≡ []
trace_quiet p lines n i s (inl none) few = let zero : i ≡ 0 = omega (arith, none, few) in ap (λ k. trace p lines k s) zero
trace_quiet p lines n i s (inr below) few = trace_none p lines i s (omega (arith, below, few))

-- the line of a flat state's turn is that of each state of which it is the flat state
pub line_flat : (lines : Lines) (s : State) (h : ℕ) → flat_line_from lines (flat s) h ≡ line_from lines s h
line_flat lines s h =
    ap (λ r. line_by r s.core (flat_made (flat s) h) lines h) (sym (reads-flat s))
    ∙ ap (λ (m : Made). line_by (reads s) s.core m lines h) (sym (made-flat s h))

-- where what turns do isn't asked, or there is no such hart, a turn has its line alone
deed_none : (seen : Option Seen) (kind : TurnKind) (note : Option Note) (after : Option Held) → deed_of seen None kind note after ≡ None
deed_none None kind told after = refl
deed_none (Some seen) kind told after = refl

abbrev held_if : Core → ℕ → Bool → Option Held
held_if c h asked = if asked then Some (held_of c h) else None

pub line_plain : (r : Reads) (c : Core) (m : Made) (lines : Lines) (h : ℕ) → (lines.effects && nat_lt h (length c.harts)) ≡ false
    → line_by r c m lines h ≡ line_text lines (c.turns + 1) h (seen_at r c h) m.kind None
line_plain r c m lines h plain =
    let seen = seen_at r c h in
    let left = held_at lines.effects m.core h in
    ap (λ (asked : Bool). line_text lines (c.turns + 1) h seen m.kind (deed_of seen (held_if c h asked) m.kind m.note left)) plain
    ∙ ap (λ (deed : Option Deed). line_text lines (c.turns + 1) h seen m.kind deed) (deed_none seen m.kind m.note left)

-- and where it is asked of a hart that there is, the line of what it did stands behind it
abbrev pub turned_by : Reads → Core → Made → ℕ → Turned
turned_by r c m h = record { kind = m.kind; note = m.note; inst = standing_inst r c h }

pub line_told : (r : Reads) (c : Core) (m : Made) (lines : Lines) (h : ℕ) → lines.effects ≡ true → h < length c.harts
    → length m.core.harts ≡ length c.harts
    → line_by r c m lines h ≡ line_text lines (c.turns + 1) h (Some (seen_of r c h)) m.kind
    (Some (deed (turned_by r c m h) (held_of c h) (held_of m.core h)))
line_told r c m lines h asked there same =
    rw (asked, same, lt-ltb h (length c.harts) there) refl

-- a turn keeps the number of harts
pub harts_kept : (f : Flat) (h : ℕ) → length (flat_made f h).core.harts ≡ length f.core.harts
harts_kept f h = (keeps-turned (flat_reads f) f.core h).harts

-- the texts of a trace so far
module _ (p : Schedule) (lines : Lines) (i : ℕ) (s : State) (m : Flat) (before at : Places)
    (has : HasTexts (run p i s) (trace p lines i s) m before at) where
  core_is : m.core ≡ (run p i s).core
  core_is = ap (λ (f : Flat). f.core) has.state

  -- the next turn
  module _ (h : ℕ) (going : all_halted m.core ≡ false) (name : named p m.core ≡ Some h) (k : Flat) (is : k ≡ flat_turn m h) where
    go : (is_stopped p (run p i s) ≡ false) × (h ≡ hart_of p (run p i s).core)
    go = goes_on p (run p i s) h (ap all_halted (sym core_is) ∙ going) (ap (named p) (sym core_is) ∙ name)

    run_next : run p (i + 1) s ≡ turn (run p i s) h
    run_next = run_more p i s h go.0 go.1

    trace_next : trace p lines (i + 1) s ≡ trace p lines i s ++ line_from lines (run p i s) h
    trace_next = trace_more p lines i s h go.0 go.1

    state_next : k ≡ flat (turn (run p i s) h)
    state_next = is ∙ ap (λ (f : Flat). flat_turn f h) has.state ∙ sym (flat-turn (run p i s) h)

    bytes_next : (flat_made m h).console ≡ (made_of (run p i s) h).console
    bytes_next = ap (λ (f : Flat). (flat_made f h).console) has.state ∙ ap (λ (d : Made). d.console) (sym (made-flat (run p i s) h))

    line_next : flat_line_from lines m h ≡ line_from lines (run p i s) h
    line_next = ap (λ (f : Flat). flat_line_from lines f h) has.state ∙ line_flat lines (run p i s) h

    pub trace_makes : (A : Type 0) (a : A) (now : Places) → ShowsOrStops (flat_made m h).console (flat_line_from lines m h) at now (Ok a)
        → HasTexts (run p (i + 1) s) (trace p lines (i + 1) s) k before now
    trace_makes A a now shows =
        let made : Makes (run p i s) h (line_from lines (run p i s) h) k at now
        = record { state = state_next; console = rw bytes_next at shows.0; report = rw line_next at shows.1 } in
        rw (run_next, trace_next) (texts_make (run p i s) (trace p lines i s) (line_from lines (run p i s) h) h m k before at now has made)

    shown_so : (A : Type 0) (which : SinkFault) (now : Places)
        → ShowsOrStops {A = A} (flat_made m h).console (flat_line_from lines m h) at now (Err which)
        → ShowsOrStops {A = Unit {0}} (made_of (run p i s) h).console (line_from lines (run p i s) h) at now (Err which)
    shown_so A F.Console now stops = rw bytes_next at stops
    shown_so A F.Report now stops = rw (bytes_next, line_next) at stops
    shown_so A F.Dump now stops = stops

    pub trace_fails : (A : Type 0) (now : Places) (which : SinkFault)
        → ShowsOrStops {A = A} (flat_made m h).console (flat_line_from lines m h) at now (Err which)
        → StopsAt (λ n. run p n s) (λ n. trace p lines n s) i k before now which
    trace_fails A now which stops =
        texts_stop (λ n. run p n s) (λ n. trace p lines n s) i (made_of (run p i s) h).console (line_from lines (run p i s) h) m k before at
        now which has
        (state_next ∙ ap flat (sym run_next)) (ap (λ (u : State). u.console) run_next) trace_next (shown_so A which now stops)

-- a stop by other lines that are the same
pub stops_lines : (states : ℕ → State) (lines other : ℕ → List ℕ) (made : ℕ) → lines made ≡ other made → lines (made + 1) ≡ other (made + 1)
    → (m : Flat) (before now : Places) (which : SinkFault)
    → StopsAt states lines made m before now which → StopsAt states other made m before now which
stops_lines states lines other made e f m before now F.Console t =
    (t.0, t.1, subst (λ (x : List ℕ). Moves [] before.report now.report now.told x) e t.2)
stops_lines states lines other made e f m before now F.Report t = (
  t.0,
  (
    t.1.0,
    subst (λ (x : List ℕ). Breaks t.1.0 before.report now.report (sent x)) f t.1.1,
    subst (λ (x : List ℕ). length (sent x) ≤ t.1.0) e t.1.2,
  ),
  t.2,
)
stops_lines states lines other made e f m before now F.Dump t = t
