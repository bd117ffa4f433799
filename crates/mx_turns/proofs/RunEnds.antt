-- The texts and the turns of a run and of a trace, by how its turns and its end went.
use Rattle.std.proofs.Common.{◌≡◌, ℕ, ◌+◌, ◌≤◌, List, [], ◌++◌, Option, Result, Err, refl, ap, ◌∙◌, append_assoc}
use Rattle.mx_io.specs.Sink.{SinkState}
use Rattle.mx_model.specs.Run.{Schedule, run}
use Rattle.mx_model.specs.State.{State, Flat, flat}
use Rattle.mx_report.specs.declared.closing.Options.{Options}
use Rattle.mx_report.specs.declared.lines.EndState.{EndState}
use Rattle.mx_report.specs.Texts.{closing, flat_closing}
use Rattle.mx_snapshot.specs.Kept.{IsOfPlan, KeptPlan}
use Rattle.mx_turns.specs.declared.fault.SinkFault.{SinkFault}
use Rattle.mx_turns.specs.declared.fault.SinkFault.TheVariants as F
use Rattle.mx_turns.specs.declared.task.Dump.{Dump}
use Rattle.mx_turns.specs.Ends.{sinks}
use Rattle.mx_turns.specs.Runs.{end_of, note_lines, ran, report_of, undumped}
use Rattle.mx_turns.specs.Running.{KeepsShape, Places, places, HasTexts, RunsOrStops, PutOrBreaks, Closes}
use Rattle.mx_turns.specs.declared.tracing.Lines.{Lines}
use Rattle.mx_turns.specs.Tracing.{end_text, trace, traced}
use Rattle.mx_turns.proofs.Closings.{LeavesAndMakes, leave_closed, leave_stopped}
use Rattle.mx_turns.proofs.RunTexts.{grows_on}
use Rattle.mx_turns.proofs.TraceTexts.{trace_grows}

-- a machine of a plan, after the turns of a run
pub keeps_plan : (kept : KeptPlan) (f g : Flat) → IsOfPlan kept f → KeepsShape f g → IsOfPlan kept g
keeps_plan kept f g is keeps = record {
  kind = keeps.kind ∙ is.kind;
  limit = keeps.limit ∙ is.limit;
  lookaside = keeps.buffer
      ∙ is.lookaside;
  modules = keeps.modules ∙ is.modules;
}

-- the law of the closing lines
abbrev pub ClosesFlat : Type 0
ClosesFlat = (names : List (List ℕ)) (end : EndState) (options : Options) (s : State)
    → closing names end options s ≡ flat_closing names end options (flat s)

module _ (kept : KeptPlan) (options : Options) (dump : Option Dump) (steps : ℕ) (p : Schedule) (s : State) (b d e : SinkState) where
  abbrev states : ℕ → State
  states made = run p made s

  abbrev lines : ℕ → List ℕ
  lines made = note_lines (run p made s).notes

  abbrev report : List ℕ
  report = report_of kept (s.core.turns + steps) options (lines steps) (states steps)

  shown_grows : (made : ℕ) → made ≤ steps → (more : List ℕ) × ((states steps).console ≡ (states made).console ++ more)
  shown_grows made few = let g = grows_on p made steps s few in (g.more, g.console)

  told_grows : (made : ℕ) → made ≤ steps → (more : List ℕ) × (report ≡ lines made ++ more)
  unfolding report_of
  told_grows made few =
      let g = grows_on p made steps s few in
      let end = closing kept.names (end_of (s.core.turns + steps) (states steps).core) options (states steps) in
      (g.lines ++ end, ap (λ t. t ++ end) g.notes ∙ append_assoc (lines made) g.lines end)

  -- a sink stopped the turns
  pub run_stops : {A : Type 0} (machine : Flat) (mid : Places) (r : SinkState) (which : SinkFault)
      → RunsOrStops {A = A} states lines steps machine (places b [] d []) mid (Err which)
      → (which ≡ F.Console → PutOrBreaks mid.report r mid.told) → (which ≡ F.Report → r ≡ mid.report)
      → LeavesAndMakes {A = A} (undumped (ran kept options dump steps p s)) states (sinks b d e) (sinks mid.console r e) machine (Err which)
  run_stops machine mid r which stops rest same =
      leave_stopped states lines report steps shown_grows told_grows b d e stops.0 stops.1 machine mid r which stops.2 rest same

  -- the turns were made, and then the end
  report_is : ClosesFlat → (m : Flat) → m ≡ flat (states steps)
      → report ≡ lines steps ++ flat_closing kept.names (end_of (s.core.turns + steps) m.core) options m
  unfolding report_of
  report_is law m is =
      rw is (ap (λ t. lines steps ++ t) (law kept.names (end_of (s.core.turns + steps) (states steps).core) options (states steps)))

  pub run_closes : {A : Type 0} → ClosesFlat → (m : Flat) (mid now : Places)
      → HasTexts (states steps) (lines steps) m (places b [] d []) mid → (result : Result A SinkFault)
      → Closes (flat_closing kept.names (end_of (s.core.turns + steps) m.core) options m) mid now result
      → LeavesAndMakes (undumped (ran kept options dump steps p s)) states (sinks b d e) (sinks now.console now.report e) m result
  run_closes law m mid now has result closes =
      leave_closed states lines report steps shown_grows told_grows b d e
      (flat_closing kept.names (end_of (s.core.turns + steps) m.core) options m) (report_is law m has.state) m mid now has result closes

-- a trace
module _ (lines : Lines) (steps : ℕ) (p : Schedule) (s : State) (b d e : SinkState) where
  abbrev turns_of : ℕ → State
  turns_of made = run p made s

  abbrev told_of : ℕ → List ℕ
  told_of made = trace p lines made s

  abbrev text : List ℕ
  text = told_of steps ++ end_text (s.core.turns + steps) (turns_of steps).core

  seen_grows : (made : ℕ) → made ≤ steps → (more : List ℕ) × ((turns_of steps).console ≡ (turns_of made).console ++ more)
  seen_grows made few = let g = grows_on p made steps s few in (g.more, g.console)

  text_grows : (made : ℕ) → made ≤ steps → (more : List ℕ) × (text ≡ told_of made ++ more)
  text_grows made few =
      let g = trace_grows p lines made steps s few in
      let end = end_text (s.core.turns + steps) (turns_of steps).core in
      (g.0 ++ end, ap (λ t. t ++ end) g.1 ∙ append_assoc (told_of made) g.0 end)

  pub trace_stops : {A : Type 0} (machine : Flat) (mid : Places) (r : SinkState) (which : SinkFault)
      → RunsOrStops {A = A} turns_of told_of steps machine (places b [] d []) mid (Err which)
      → (which ≡ F.Console → PutOrBreaks mid.report r mid.told) → (which ≡ F.Report → r ≡ mid.report)
      → LeavesAndMakes {A = A} (traced lines steps p s) turns_of (sinks b d e) (sinks mid.console r e) machine (Err which)
  trace_stops machine mid r which stops rest same =
      leave_stopped turns_of told_of text steps seen_grows text_grows b d e stops.0 stops.1 machine mid r which stops.2 rest same

  pub trace_closes : {A : Type 0} (m : Flat) (mid now : Places) → HasTexts (turns_of steps) (told_of steps) m (places b [] d []) mid
      → (result : Result A SinkFault)
      → Closes (end_text (s.core.turns + steps) m.core) mid now result
      → LeavesAndMakes (traced lines steps p s) turns_of (sinks b d e) (sinks now.console now.report e) m result
  trace_closes m mid now has result closes =
      let is : text ≡ told_of steps ++ end_text (s.core.turns + steps) m.core = rw has.state refl in
      leave_closed turns_of told_of text steps seen_grows text_grows b d e (end_text (s.core.turns + steps) m.core) is m mid now has result
      closes
