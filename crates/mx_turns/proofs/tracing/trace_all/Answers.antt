use Rattle.std.proofs.Common.{◌≡◌, ℕ, ◌+◌, ◌-◌, ◌≤◌, [], sym, subst, arith}
use Rattle.std.proofs.lemmas.Result.{err_from_is_err_and}
use Rattle.mx_any.specs.Machines.{meaning}
use Rattle.mx_model.specs.Run.{run}
use Rattle.mx_turns.specs.Running.{schedule_of, places, RunsOrStops}
use Rattle.mx_turns.specs.Tracing.{trace}
use Rattle.mx_turns.proofs.TraceTexts.{stops_lines, trace_quiet}
use Rattle.mx_turns.proofs.tracing.trace_all.Goals as goal

pub returns-in_err-skip_turns : goal.returns-in_err-skip_turns
returns-in_err-skip_turns g c =
    let p = err_from_is_err_and c.from_residual.result c.from_residual.ensures.1 in
    let t = c.args.task.now in
    let q = schedule_of t.schedule in
    let quiet = c.lineless-quiet.result in
    rw (p.1, p.2)
    (λ s b.
    let stops = c.in_err-skip_turns.ensures.runs s b in
    let below = rw (c.steps.ensures, b.state) at c.lineless-quiet.ensures.none in
    let none = λ (n : ℕ) (few : n ≤ quiet). sym (trace_quiet q t.lines quiet n s below few) in (
      stops.0,
      omega (arith, stops.1, c.lineless-quiet.ensures.few),
      stops_lines (λ n. run q n s) (λ n. []) (λ n. trace q t.lines n s) stops.0 (none stops.0 (omega (arith, stops.1)))
          (none (stops.0 + 1) (omega (arith, stops.1))) (meaning c.skip_turns.new.machine)
          (places (g.C.Sink.state c.args.console.now) c.args.shown.now (g.R.Sink.state c.args.report.now) c.args.told.now)
          (places (g.C.Sink.state c.skip_turns.new.console) c.skip_turns.new.shown (g.R.Sink.state c.skip_turns.new.report)
          c.skip_turns.new.told) c.in_err-skip_turns.field-0.0 stops.2,
    ))

pub trace_turns-requires-clause-few : goal.trace_turns-requires-clause-few
trace_turns-requires-clause-few g c = omega (arith, c.in_ok-skip_turns.ensures.turns, c.lineless-quiet.ensures.few, c.requires.few)

pub returns : goal.returns
returns g c =
    let t = c.args.task.now in
    let q = schedule_of t.schedule in
    let quiet = c.lineless-quiet.result in
    λ s b.
    let has = c.in_ok-skip_turns.ensures.runs s b in
    let below = rw (c.steps.ensures, b.state) at c.lineless-quiet.ensures.none in
    let none = trace_quiet q t.lines quiet quiet s below (omega arith) in
    let whole : quiet + (t.steps - quiet) ≡ t.steps = omega (arith, c.lineless-quiet.ensures.few) in
    let before = places (g.C.Sink.state c.args.console.now) c.args.shown.now (g.R.Sink.state c.args.report.now) c.args.told.now in
    let now = places (g.C.Sink.state c.trace_turns.new.console) c.trace_turns.new.shown (g.R.Sink.state c.trace_turns.new.report)
    c.trace_turns.new.told in
    subst (λ (n : ℕ). RunsOrStops (λ made. run q made s) (λ made. trace q t.lines made s) n (meaning c.trace_turns.new.machine) before now
    c.trace_turns.result) whole
    (c.trace_turns.ensures s quiet before (rw none has))
