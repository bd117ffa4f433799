use Rattle.std.proofs.Common.{sym, ap, ◌∙◌, refl, arith}
use Rattle.mx_model.specs.Run.{all_halted}
use Rattle.mx_model.specs.State.{Flat}
use Rattle.mx_turns.specs.Running.{schedule_of}
use Rattle.mx_turns.proofs.CountLaws.{counted_none, counted_over, no_places, tallied_none}
use Rattle.mx_turns.proofs.RunTexts.{run_ends, stops_halted}
use Rattle.mx_turns.proofs.counting.count_machine.Goals as goal

pub returns-then-all_halted : goal.returns-then-all_halted
returns-then-all_halted g c =
    λ s new is.
    let p = schedule_of c.args.schedule in
    rw (run_ends p 0 c.args.steps s (omega arith) (stops_halted p s (ap (λ (f : Flat). all_halted f.core) (sym is)
    ∙ sym c.if-all_halted.ensures))) (counted_none s c.args.machine.now _ new is refl refl refl)

pub make_rows-requires-clause-pace : goal.make_rows-requires-clause-pace
make_rows-requires-clause-pace g c = (
  schedule_of c.args.schedule,
  c.begin-start.ensures c.args.machine.now.core (sym c.steps.ensures)
      (sym c.harts.ensures),
)

pub returns : goal.returns
returns g c =
    λ s new is.
    let p = schedule_of c.args.schedule in
    counted_over p s c.args.steps c.make_rows.new.machine c.make_rows.new.report c.make_rows.result
    (c.make_rows.ensures.runs p 0 s no_places (c.begin-start.ensures c.args.machine.now.core (sym c.steps.ensures) (sym c.harts.ensures))
    (tallied_none s c.args.machine.now _ new is refl refl refl)) c.requires.short
