use Rattle.std.proofs.Common.{◌≡◌, ◌+◌, sym, ap, ◌∙◌, arith}
use Rattle.mx_model.specs.Run.{all_halted, run}
use Rattle.mx_model.specs.State.{State, Flat}
use Rattle.mx_turns.specs.Running.{schedule_of, told_by, places}
use Rattle.mx_turns.proofs.RunTexts.{keeps_later, run_begins, run_ends, stops_halted, texts_over}
use Rattle.mx_turns.proofs.turns.make_turns.Goals as goal

pub returns-then-all_halted-clause-runs : goal.returns-then-all_halted-clause-runs
returns-then-all_halted-clause-runs g c =
    λ s b.
    let p = schedule_of c.args.schedule in
    rw (run_ends p 0 c.args.steps s (omega arith) (stops_halted p s (ap (λ (f : Flat). all_halted f.core) (sym b.state)
    ∙ sym c.if-all_halted.ensures))) (run_begins c.args.telling s _ _ b)

pub make_rows-requires-clause-pace : goal.make_rows-requires-clause-pace
make_rows-requires-clause-pace g c = (
  schedule_of c.args.schedule,
  c.begin-start.ensures c.args.machine.now.core (sym c.steps.ensures)
      (sym c.harts.ensures),
)

pub returns-clause-keeps : goal.returns-clause-keeps
returns-clause-keeps g c = let later = c.make_rows.ensures.later in keeps_later _ _ later.0 later.2

pub returns-clause-turns : goal.returns-clause-turns
returns-clause-turns g c = let later = c.make_rows.ensures.later in omega (arith, later.1, later.2.turns)

pub returns-clause-runs : goal.returns-clause-runs
returns-clause-runs g c =
    λ s b.
    let p = schedule_of c.args.schedule in
    let before = places (g.C.Sink.state c.args.console.now) c.args.shown.now (g.R.Sink.state c.args.report.now) c.args.told.now in
    let now = places (g.C.Sink.state c.make_rows.new.console) c.make_rows.new.shown (g.R.Sink.state c.make_rows.new.report)
    c.make_rows.new.told in
    let e : 0 + c.args.steps ≡ c.args.steps = omega arith in
    rw e
    at (texts_over p s (λ n. told_by c.args.telling (run p n s)) (λ j n few stopped.
    ap (λ (u : State). told_by c.args.telling u) (run_ends p j n s few stopped)) 0 c.args.steps c.make_rows.new.machine before now
    c.make_rows.result
    (c.make_rows.ensures.runs p 0 s before (c.begin-start.ensures c.args.machine.now.core (sym c.steps.ensures) (sym c.harts.ensures))
    (run_begins c.args.telling s _ _ b)))
