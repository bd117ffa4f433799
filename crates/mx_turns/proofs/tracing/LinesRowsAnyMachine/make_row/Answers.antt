use Rattle.std.proofs.Common.{refl, arith}
use Rattle.mx_any.specs.Machines.{meaning}
use Rattle.mx_turns.specs.Running.{places}
use Rattle.mx_turns.proofs.RunTexts.{later_none, later_turn}
use Rattle.mx_turns.proofs.TraceTexts.{trace_makes, trace_fails}
use Rattle.mx_turns.proofs.tracing.LinesRowsAnyMachine.make_row.Goals as goal

pub returns-in-Ok-clause-later : goal.returns-in-Ok-clause-later
returns-in-Ok-clause-later g c =
    let f = meaning c.args.machine.now in (
      1,
      c.requires.some,
      later_turn f f (meaning c.trace_turn.new.machine) 0 1 c.args.hart (later_none f) c.trace_turn.ensures.turn
          (omega arith),
      refl,
    )

pub returns-in-Ok-clause-stands : goal.returns-in-Ok-clause-stands
returns-in-Ok-clause-stands g c =
    λ p made s before going row has.
    let f = meaning c.args.machine.now in
    trace_makes p c.args.self.now made s f before (places (g.C.Sink.state c.args.console.now) c.args.shown.now
    (g.R.Sink.state c.args.report.now) c.args.told.now) has c.args.hart going
    (row.each 0 row.some f.core (omega arith) refl) (meaning c.trace_turn.new.machine) c.trace_turn.ensures.turn _ c.in-Ok.field-0
    (places (g.C.Sink.state c.trace_turn.new.console) c.trace_turn.new.shown (g.R.Sink.state c.trace_turn.new.report) c.trace_turn.new.told)
    c.in-Ok.ensures.shows

pub returns-in-Err-clause-later : goal.returns-in-Err-clause-later
returns-in-Err-clause-later g c =
    let f = meaning c.args.machine.now in (
      1,
      c.requires.some,
      later_turn f f (meaning c.trace_turn.new.machine) 0 1 c.args.hart (later_none f) c.trace_turn.ensures.turn
          (omega arith),
      tt,
    )

pub returns-in-Err-clause-stands : goal.returns-in-Err-clause-stands
returns-in-Err-clause-stands g c =
    λ p made s before going row has.
    let f = meaning c.args.machine.now in
    let some = row.some in (
      made,
      omega (arith, some),
      trace_fails p c.args.self.now made s f before (places (g.C.Sink.state c.args.console.now) c.args.shown.now
          (g.R.Sink.state c.args.report.now) c.args.told.now) has c.args.hart going
          (row.each 0 row.some f.core (omega arith) refl) (meaning c.trace_turn.new.machine) c.trace_turn.ensures.turn (Unit {0})
          (places (g.C.Sink.state c.trace_turn.new.console) c.trace_turn.new.shown (g.R.Sink.state c.trace_turn.new.report)
          c.trace_turn.new.told) c.in-Err.fault c.in-Err.ensures.shows,
    )
