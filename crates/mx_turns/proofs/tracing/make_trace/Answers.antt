use Rattle.std.proofs.Common.{◌≡◌, ◌+◌, refl, ap, ◌∙◌}
use Rattle.mx_any.specs.Machines.{meaning}
use Rattle.mx_io.specs.Sink.{SinkState}
use Rattle.mx_model.specs.State.{State, Flat, flat}
use Rattle.mx_turns.specs.declared.fault.SinkFault.TheVariants as F
use Rattle.mx_turns.specs.Running.{IsNew, schedule_of, places}
use Rattle.mx_turns.proofs.RunEnds.{trace_closes, trace_stops}
use Rattle.mx_turns.proofs.Sinking.{put_or}
use Rattle.mx_turns.proofs.tracing.make_trace.Goals as goal

pub returns-in-Ok : goal.returns-in-Ok
returns-in-Ok g c =
    let t = c.args.task.now in
    let ends = λ (s : State) (new : IsNew s) (is : meaning c.args.machine.now ≡ flat s) (dump : SinkState).
    let runs = c.in-Ok.ensures s (record {
      state = is;
      console = new.console;
      notes = new.notes;
      shown = c.new-shown.ensures;
      told =
          c.new-told.ensures;
    }) in
    let target : c.steps.result + t.steps ≡ s.core.turns + t.steps =
    ap (λ n. n + t.steps) (c.steps.ensures ∙ ap (λ (f : Flat). f.core.turns) is) in
    trace_closes t.lines t.steps (schedule_of t.schedule) s _ _ dump (meaning c.trace_all.new.machine)
    (places (g.C.Sink.state c.trace_all.new.console) c.trace_all.new.shown (g.R.Sink.state c.trace_all.new.report) c.trace_all.new.told)
    (places (g.C.Sink.state c.end_trace.new.console) c.end_trace.new.shown (g.R.Sink.state c.end_trace.new.report) c.end_trace.new.told)
    (rw (c.new-shown.ensures, c.new-told.ensures) at runs) c.end_trace.result (rw target at c.end_trace.ensures) in
    record { leave = λ s new is dump. (ends s new is dump).0; turns = λ s new is dump. (ends s new is dump).1 }

pub returns-in-Err-Console : goal.returns-in-Err-Console
returns-in-Err-Console g c =
    let t = c.args.task.now in
    let ends = λ (s : State) (new : IsNew s) (is : meaning c.args.machine.now ≡ flat s) (dump : SinkState).
    let runs = c.in-Err-Console.ensures s (record {
      state = is;
      console = new.console;
      notes = new.notes;
      shown = c.new-shown.ensures;
      told = c.new-told.ensures;
    }) in
    trace_stops t.lines t.steps (schedule_of t.schedule) s _ _ dump {A = Unit {0}} (meaning c.trace_all.new.machine)
    (places (g.C.Sink.state c.trace_all.new.console) c.trace_all.new.shown (g.R.Sink.state c.trace_all.new.report) c.trace_all.new.told)
    (g.R.Sink.state c.end.new.sink) F.Console
    (rw (c.new-shown.ensures, c.new-told.ensures, c.in-Err-Console.field-0-is) at runs) (λ e. put_or c.end.ensures.puts) (λ e.
    absurd (let q : ⊥ = cc in q)) in
    record { leave = λ s new is dump. (ends s new is dump).0; turns = λ s new is dump. (ends s new is dump).1 }

pub returns-in-Err-Report : goal.returns-in-Err-Report
returns-in-Err-Report g c =
    let t = c.args.task.now in
    let ends = λ (s : State) (new : IsNew s) (is : meaning c.args.machine.now ≡ flat s) (dump : SinkState).
    let runs = c.in-Err-Report.ensures s (record {
      state = is;
      console = new.console;
      notes = new.notes;
      shown = c.new-shown.ensures;
      told =
          c.new-told.ensures;
    }) in
    trace_stops t.lines t.steps (schedule_of t.schedule) s _ _ dump {A = Unit {0}} (meaning c.trace_all.new.machine)
    (places (g.C.Sink.state c.trace_all.new.console) c.trace_all.new.shown (g.R.Sink.state c.trace_all.new.report) c.trace_all.new.told)
    (g.R.Sink.state c.trace_all.new.report) F.Report
    (rw (c.new-shown.ensures, c.new-told.ensures, c.in-Err-Report.field-0-is) at runs) (λ e. absurd (let q : ⊥ = cc in q)) (λ e. refl) in
    record { leave = λ s new is dump. (ends s new is dump).0; turns = λ s new is dump. (ends s new is dump).1 }

pub returns-in-Err-Dump : goal.returns-in-Err-Dump
returns-in-Err-Dump g c =
    let never = λ (s : State) (new : IsNew s) (is : meaning c.args.machine.now ≡ flat s).
    let runs = c.in-Err-Dump.ensures s (record {
      state = is;
      console = new.console;
      notes = new.notes;
      shown = c.new-shown.ensures;
      told =
          c.new-told.ensures;
    }) in
    (rw c.in-Err-Dump.field-0-is at runs).2 in
    record { leave = λ s new is dump. absurd (never s new is); turns = λ s new is dump. absurd (never s new is) }
