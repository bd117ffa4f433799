-- How the texts of a run left and which turns were made, by what its loop and its end did.
use Rattle.std.proofs.Common.{◌≡◌, ℕ, ◌+◌, ◌<◌, ◌≤◌, List, [], ◌++◌, length, Result, Ok, Err, refl, sym, subst, inl, inr, arith}
use Rattle.std.proofs.lemmas.List.{append-nil}
use Rattle.mx_io.specs.Texts.{AppendsPrefix}
use Rattle.mx_io.specs.Sink.{SinkState}
use Rattle.mx_io.proofs.Text.{appends_nothing}
use Rattle.mx_model.specs.State.{State, Flat, flat}
use Rattle.mx_tail.specs.Tail.{sent}
use Rattle.mx_turns.specs.declared.fault.SinkFault.{SinkFault}
use Rattle.mx_turns.specs.declared.fault.SinkFault.TheVariants as F
use Rattle.mx_turns.specs.Ends.{FailsAt, Texts, Sinks, sinks, IsSinkFault, Leave, StopsTurns, MakesTurns}
use Rattle.mx_turns.specs.Runs.{undumped}
use Rattle.mx_turns.specs.Running.{Put, Breaks, PutOrBreaks, Places, places, HasTexts, StopsAt, Closes}
use Rattle.mx_turns.proofs.Sinking.{BreaksSomewhere, breaks_more, breaks_same, breaks_sent, moves_put, moves_unput, prefix_moves}
use Rattle.mx_turns.proofs.Sinking.{prefix_none, prefix_tells, prefix_whole, put_same, tells_of}

-- what a text is before more of it
abbrev Begun : List ℕ → List ℕ → Type 0
Begun whole front = (more : List ℕ) × (whole ≡ front ++ more)

breaks_begun : (k : ℕ) (b n : SinkState) (whole front : List ℕ) → Begun whole front → Breaks k b n front → Breaks k b n whole
breaks_begun k b n whole front is p = breaks_same k b n (front ++ is.0) whole (sym is.1) (breaks_more k b n front is.0 p)

prefix_begun : (b n : SinkState) (whole front : List ℕ) → Begun whole front
    → ((y : List ℕ) → AppendsPrefix b.written n.written (front ++ y)) → AppendsPrefix b.written n.written whole
prefix_begun b n whole front is p = subst (λ (t : List ℕ). AppendsPrefix b.written n.written t) (sym is.1) (p is.0)

-- the texts left, and the turns were made
abbrev pub LeavesAndMakes : {A : Type 0} → Texts → (ℕ → State) → Sinks → Sinks → Flat → Result A SinkFault → Type 0
LeavesAndMakes texts states before now machine result =
    Leave texts before now result × MakesTurns texts states before now machine result

-- a run that makes at most so many turns, without the dump
module _ (states : ℕ → State) (lines : ℕ → List ℕ) (report : List ℕ) (turns : ℕ)
    (shown_grows : (made : ℕ) → made ≤ turns → (more : List ℕ) × ((states turns).console ≡ (states made).console ++ more))
    (told_grows : (made : ℕ) → made ≤ turns → (more : List ℕ) × (report ≡ lines made ++ more))
    (b d e : SinkState) where
  abbrev pub texts : Texts
  texts = record {
    console = (states turns).console;
    report = report;
    dump = [];
    turns = turns;
    shown = λ made. (states made).console;
    told = lines;
  }

  -- a sink failed at the turn after so many
  at_turn : (made bytes : ℕ) (text : List ℕ) (so_far : ℕ → List ℕ) (before now : SinkState) (machine : Flat)
      → made < turns → machine ≡ flat (states (made + 1)) → FailsAt bytes text before now
      → length (sent (so_far made)) ≤ bytes → bytes < length (sent (so_far (made + 1)))
      → StopsTurns made bytes text so_far turns states before now machine
  at_turn made bytes text so_far before now machine few is fails pieces next = record {
    fails = fails;
    leaves = record { few = omega (arith, few); pieces = pieces; next = inl (few, next) };
    last = λ fewer. is;
    all = λ same. absurd (omega (arith, few, same));
  }

  -- it failed after all of them
  at_end : (bytes : ℕ) (text : List ℕ) (so_far : ℕ → List ℕ) (before now : SinkState) (machine : Flat)
      → machine ≡ flat (states turns) → FailsAt bytes text before now → length (sent (so_far turns)) ≤ bytes
      → StopsTurns turns bytes text so_far turns states before now machine
  at_end bytes text so_far before now machine is fails pieces = record {
    fails = fails;
    leaves = record { few = omega arith; pieces = pieces; next = inr refl };
    last = λ few. absurd (omega (arith, few));
    all = λ same. is;
  }

  -- a sink stopped the turns; where it was the console, what the report's buffer held was put after that
  pub leave_stopped : {A : Type 0} (made : ℕ) → made < turns → (machine : Flat) (mid : Places) (r : SinkState)
      (which : SinkFault) → StopsAt states lines made machine (places b [] d []) mid which
      → (which ≡ F.Console → PutOrBreaks mid.report r mid.told) → (which ≡ F.Report → r ≡ mid.report)
      → LeavesAndMakes {A = A} texts states (sinks b d e) (sinks mid.console r e) machine (Err which)
  leave_stopped made few machine mid r F.Console s rest same =
      let breaks = breaks_begun s.1.0 b mid.console _ _ (shown_grows (made + 1) (omega (arith, few)))
      (breaks_sent s.1.0 b mid.console _ s.1.1) in
      let tells = tells_of d mid.report r mid.told (lines made) s.2 (rest refl) in
      let stops = at_turn made s.1.0 texts.console texts.shown b mid.console machine few s.0 breaks.fails s.1.2 s.1.1.fails.within in (
        record {
          whole = tt;
          fault = (
            (made, s.1.0, breaks.fails, stops.leaves, tells, refl),
            record {
              console = (s.1.0, breaks.fails.put);
              report = prefix_begun d r report (lines made) (told_grows made (omega (arith, few))) (λ y.
                  prefix_tells d r (lines made) y tells);
              dump = prefix_none e [];
            },
          );
          sure = λ room. absurd (breaks.tight room.console);
        },
        (made, s.1.0, stops),
      )
  leave_stopped made few machine mid r F.Report s rest same =
      let breaks = breaks_begun s.1.0 d mid.report _ _ (told_grows (made + 1) (omega (arith, few))) (breaks_sent s.1.0 d mid.report _ s.1.1)
      in
      let shown = λ (y : List ℕ). prefix_moves b mid.console mid.shown (states (made + 1)).console y s.2 in
      let stops = at_turn made s.1.0 texts.report texts.told d mid.report machine few s.0 breaks.fails s.1.2 s.1.1.fails.within in
      rw (same refl) (
        record {
          whole = tt;
          fault = (
            (made, s.1.0, breaks.fails, stops.leaves, inl (few, record { whole = s.2.put.whole; kept = s.2.put.kept }), refl),
            record {
              console = prefix_begun b mid.console _ _ (shown_grows (made + 1) (omega (arith, few))) shown;
              report = (s.1.0, breaks.fails.put);
              dump = prefix_none e [];
            },
          );
          sure = λ room. absurd (breaks.tight room.report);
        },
        (made, s.1.0, stops),
      )
  leave_stopped made few machine mid r F.Dump s rest same = absurd s

  -- the turns were made, and then the end
  module _ (closing : List ℕ) (is : report ≡ lines turns ++ closing) (machine : Flat) (mid now : Places)
      (has : HasTexts (states turns) (lines turns) machine (places b [] d []) mid) where
    shown_put : Put mid.console now.console mid.shown → Put b now.console (states turns).console
    shown_put p = put_same b now.console _ _ (append-nil _) (moves_put b mid.console now.console mid.shown _ [] has.console
        (put_same mid.console now.console _ _ (sym (append-nil mid.shown)) p))

    shown_unput : BreaksSomewhere mid.console now.console mid.shown
        → (k : ℕ) × Breaks k b now.console (states turns).console × (length (sent (states turns).console) ≤ k)
    shown_unput q =
        let p = moves_unput b mid.console now.console mid.shown (states turns).console [] has.console
        (q.0, breaks_same q.0 mid.console now.console _ _ (sym (append-nil mid.shown)) q.1) in
        (p.0, breaks_same p.0 b now.console _ _ (append-nil _) p.1, p.2)

    pub leave_closed : {A : Type 0} (result : Result A SinkFault) → Closes closing mid now result
        → LeavesAndMakes texts states (sinks b d e) (sinks now.console now.report e) machine result
    leave_closed (Ok a) c =
        let console = shown_put c.0 in
        let told = put_same d now.report _ _ (sym is) (moves_put d mid.report now.report mid.told (lines turns) closing has.report c.1) in (
          record {
            whole = (
              record { console = console.whole; report = told.whole; dump = appends_nothing e.written },
              record {
                console =
                    console.kept;
                report = told.kept;
                dump = refl;
              },
            );
            fault = tt;
            sure = λ room. refl;
          },
          has.state,
        )
    leave_closed (Err F.Console) c =
        let unput = shown_unput c.0 in
        let tells = tells_of d mid.report now.report mid.told (lines turns) has.report c.1 in
        let stops = at_end unput.0 texts.console texts.shown b now.console machine has.state unput.1.fails unput.2 in (
          record {
            whole = tt;
            fault = (
              (turns, unput.0, unput.1.fails, stops.leaves, tells, refl),
              record {
                console = (unput.0, unput.1.fails.put);
                report = subst (λ (t : List ℕ). AppendsPrefix d.written now.report.written t) (sym is)
                    (prefix_tells d now.report (lines turns) closing tells);
                dump = prefix_none e [];
              },
            );
            sure = λ room. absurd (unput.1.tight room.console);
          },
          (turns, unput.0, stops),
        )
    leave_closed (Err F.Report) c =
        let console = shown_put c.0 in
        let told = moves_unput d mid.report now.report mid.told (lines turns) closing has.report c.1 in
        let unput = breaks_same told.0 d now.report _ _ (sym is) told.1 in
        let stops = at_end told.0 texts.report texts.told d now.report machine has.state unput.fails told.2 in (
          record {
            whole = tt;
            fault = (
              (turns, told.0, unput.fails, stops.leaves, inr (refl, record { whole = console.whole; kept = console.kept }), refl),
              record {
                console = prefix_whole b now.console _ console.whole;
                report = (told.0, unput.fails.put);
                dump = prefix_none e [];
              },
            );
            sure = λ room. absurd (unput.tight room.report);
          },
          (turns, told.0, stops),
        )
    leave_closed (Err F.Dump) c = absurd c

-- the dump comes last
module _ (texts : Texts) (b d c r e : SinkState) where
  -- it was put, or wasn't
  pub leave_dumped : {A : Type 0} {a : A} → Leave (undumped texts) (sinks b d e) (sinks c r e) (Ok a) → (f : SinkState) → Put e f texts.dump
      → Leave texts (sinks b d e) (sinks c r f) (Ok a)
  leave_dumped l f p = record {
    whole = (
      record { console = l.whole.0.console; report = l.whole.0.report; dump = p.whole },
      record { console = l.whole.1.console; report = l.whole.1.report; dump = p.kept },
    );
    fault = tt;
    sure = λ room. refl;
  }

  pub leave_undumped : {A : Type 0} {a : A} → Leave (undumped texts) (sinks b d e) (sinks c r e) (Ok a) → (f : SinkState)
      → BreaksSomewhere e f texts.dump
      → Leave {A = A} texts (sinks b d e) (sinks c r f) (Err F.Dump)
  leave_undumped l f p =
      let holds = l.whole.0 in
      record {
        whole = tt;
        fault = (
          (
            p.0,
            p.1.fails,
            record { whole = holds.console; kept = l.whole.1.console },
            record { whole = holds.report; kept = l.whole.1.report },
          ),
          record { console = prefix_whole b c _ holds.console; report = prefix_whole d r _ holds.report; dump = (p.0, p.1.fails.put) },
        );
        sure = λ room. absurd (p.1.tight room.dump);
      }

  -- another sink failed before it
  fault_before : (which : SinkFault) → IsSinkFault which (undumped texts) (sinks b d e) (sinks c r e)
      → IsSinkFault which texts (sinks b d e) (sinks c r e)
  fault_before F.Console f = f
  fault_before F.Report f = f
  fault_before F.Dump f = let none = f.1.within in absurd (omega (arith, none))

  leave_before : {A : Type 0} (which : SinkFault) → Leave {A = A} (undumped texts) (sinks b d e) (sinks c r e) (Err which)
      → Leave {A = A} texts (sinks b d e) (sinks c r e) (Err which)
  leave_before which l = record {
    whole = tt;
    fault = (
      fault_before which l.fault.0,
      record { console = l.fault.1.console; report = l.fault.1.report; dump = prefix_none e texts.dump },
    );
    sure = λ room. l.sure (record { console = room.console; report = room.report; dump = omega arith });
  }

  pub ends_before : {A : Type 0} (states : ℕ → State) (machine : Flat) (which : SinkFault)
      → LeavesAndMakes {A = A} (undumped texts) states (sinks b d e) (sinks c r e) machine (Err which)
      → LeavesAndMakes {A = A} texts states (sinks b d e) (sinks c r e) machine (Err which)
  ends_before states machine F.Console l = (leave_before F.Console l.0, l.1)
  ends_before states machine F.Report l = (leave_before F.Report l.0, l.1)
  ends_before states machine F.Dump l = (leave_before F.Dump l.0, l.1)
