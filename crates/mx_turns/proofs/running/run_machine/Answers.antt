use Rattle.std.proofs.Common.{◌≡◌, ◌+◌, refl, ap, ◌∙◌}
use Rattle.mx_model.specs.State.{Flat}
use Rattle.mx_machine.proofs.SizeLaws.{fits-inside}
use Rattle.mx_turns.specs.declared.fault.SinkFault.TheVariants as F
use Rattle.mx_turns.specs.Running.{schedule_of, places}
use Rattle.mx_turns.proofs.RunEnds.{keeps_plan, run_closes, run_stops}
use Rattle.mx_turns.proofs.Sinking.{on_ok, put_or}
use Rattle.mx_turns.proofs.running.run_machine.Goals as goal

pub end_run-requires : goal.end_run-requires
end_run-requires g c = (
  search fits-inside,
  (
    c.requires.names,
    keeps_plan c.args.kept.now c.args.machine.now c.make_turns.new.machine c.requires.plan
        c.in-Ok.ensures.keeps,
  ),
)

pub returns-in-Ok : goal.returns-in-Ok
returns-in-Ok g c =
    let t = c.args.task.now in
    record {
      ends = λ s new is dump.
          let runs = c.in-Ok.ensures.runs s (record {
            state = is;
            console = new.console;
            notes = new.notes;
            shown = c.new-shown.ensures;
            told = c.new-told.ensures;
          }) in
          let target : c.steps.result + t.steps ≡ s.core.turns + t.steps =
          ap (λ n. n + t.steps) (c.steps.ensures ∙ ap (λ (f : Flat). f.core.turns) is) in
          run_closes c.args.kept.now t.options t.dump t.steps (schedule_of t.schedule) s _ _ dump c.closing_of_a_flat_state.ensures
          c.make_turns.new.machine
          (places (g.C.Sink.state c.make_turns.new.console) c.make_turns.new.shown (g.R.Sink.state c.make_turns.new.report)
          c.make_turns.new.told)
          (places (g.C.Sink.state c.end_run.new.console) c.end_run.new.shown (g.R.Sink.state c.end_run.new.report) c.end_run.new.told)
          (rw (c.new-shown.ensures, c.new-told.ensures) at runs) c.end_run.result (rw target at c.end_run.ensures);
      plan = on_ok _ c.end_run.result (keeps_plan c.args.kept.now c.args.machine.now c.make_turns.new.machine c.requires.plan
          c.in-Ok.ensures.keeps);
    }

pub returns-in-Err-Console : goal.returns-in-Err-Console
returns-in-Err-Console g c =
    let t = c.args.task.now in
    record {
      ends = λ s new is dump.
          let runs = c.in-Err-Console.ensures.runs s (record {
            state = is;
            console = new.console;
            notes = new.notes;
            shown =
                c.new-shown.ensures;
            told = c.new-told.ensures;
          }) in
          run_stops c.args.kept.now t.options t.dump t.steps (schedule_of t.schedule) s _ _ dump c.make_turns.new.machine
          (places (g.C.Sink.state c.make_turns.new.console) c.make_turns.new.shown (g.R.Sink.state c.make_turns.new.report)
          c.make_turns.new.told) (g.R.Sink.state c.end.new.sink) F.Console
          (rw (c.new-shown.ensures, c.new-told.ensures, c.in-Err-Console.field-0-is) at runs) (λ e. put_or c.end.ensures.puts) (λ e.
          absurd (let q : ⊥ = cc in q));
      plan = tt;
    }

pub returns-in-Err-Report : goal.returns-in-Err-Report
returns-in-Err-Report g c =
    let t = c.args.task.now in
    record {
      ends = λ s new is dump.
          let runs = c.in-Err-Report.ensures.runs s (record {
            state = is;
            console = new.console;
            notes = new.notes;
            shown =
                c.new-shown.ensures;
            told = c.new-told.ensures;
          }) in
          run_stops c.args.kept.now t.options t.dump t.steps (schedule_of t.schedule) s _ _ dump c.make_turns.new.machine
          (places (g.C.Sink.state c.make_turns.new.console) c.make_turns.new.shown (g.R.Sink.state c.make_turns.new.report)
          c.make_turns.new.told) (g.R.Sink.state c.make_turns.new.report) F.Report
          (rw (c.new-shown.ensures, c.new-told.ensures, c.in-Err-Report.field-0-is) at runs) (λ e. absurd (let q : ⊥ = cc in q)) (λ e.
          refl);
      plan = tt;
    }

pub returns-in-Err-Dump : goal.returns-in-Err-Dump
returns-in-Err-Dump g c =
    record {
      ends = λ s new is dump.
          let runs = c.in-Err-Dump.ensures.runs s (record {
            state = is;
            console = new.console;
            notes = new.notes;
            shown =
                c.new-shown.ensures;
            told = c.new-told.ensures;
          }) in
          absurd (rw c.in-Err-Dump.field-0-is at runs).2;
      plan = tt;
    }

pub steps-requires : goal.steps-requires
steps-requires g c = search

pub make_turns-requires : goal.make_turns-requires
make_turns-requires g c = search
