use Rattle.std.proofs.Common.{◌+◌, sym, ap, ◌∙◌, arith}
use Rattle.mx_any.specs.Machines.{meaning}
use Rattle.mx_model.specs.Run.{all_halted, run}
use Rattle.mx_model.specs.State.{Flat}
use Rattle.mx_turns.specs.Running.{schedule_of, places}
use Rattle.mx_turns.specs.Tracing.{trace}
use Rattle.mx_turns.proofs.RunTexts.{run_ends, stops_halted, texts_over}
use Rattle.mx_turns.proofs.TraceTexts.{trace_ends}
use Rattle.mx_turns.proofs.tracing.trace_turns.Goals as goal

pub returns-then-all_halted : goal.returns-then-all_halted
returns-then-all_halted g c =
    λ s done before has.
    let p = schedule_of c.args.schedule in
    let stopped = stops_halted p (run p done s) (ap (λ (f : Flat). all_halted f.core) (sym has.state) ∙ sym c.if-all_halted.ensures) in
    rw (
      run_ends p done (done + c.args.steps) s (omega arith) stopped,
      trace_ends p c.args.lines done (done + c.args.steps) s (omega arith)
          stopped,
    ) has

pub make_rows-requires-clause-pace : goal.make_rows-requires-clause-pace
make_rows-requires-clause-pace g c = (
  schedule_of c.args.schedule,
  c.begin-start.ensures (meaning c.args.machine.now).core
      (sym c.steps.ensures) (sym c.harts.ensures),
)

pub returns : goal.returns
returns g c =
    λ s done before has.
    let p = schedule_of c.args.schedule in
    let now = places (g.C.Sink.state c.make_rows.new.console) c.make_rows.new.shown (g.R.Sink.state c.make_rows.new.report)
    c.make_rows.new.told in
    texts_over p s (λ n. trace p c.args.lines n s) (λ j n few stopped. trace_ends p c.args.lines j n s few stopped) done c.args.steps
    (meaning c.make_rows.new.machine) before now c.make_rows.result
    (c.make_rows.ensures.runs p done s before (c.begin-start.ensures (meaning c.args.machine.now).core (sym c.steps.ensures)
    (sym c.harts.ensures)) has)
