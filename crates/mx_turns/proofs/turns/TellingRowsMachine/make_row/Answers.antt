use Rattle.std.proofs.Common.{sym}
use Rattle.mx_turns.specs.Running.{places}
use Rattle.mx_turns.proofs.RunTexts.{goes_on_quiet, later_row, row_quiet, row_shown, row_stopped}
use Rattle.mx_turns.proofs.turns.TellingRowsMachine.make_row.Goals as goal

-- the last turn may add nothing
pub returns-then-not-may_tell-clause-later : goal.returns-then-not-may_tell-clause-later
returns-then-not-may_tell-clause-later g c = later_row c.args.machine.now c.run_on-stretch.new.self c.args.hart c.args.most
    c.run_on-stretch.new.out c.run_on-stretch.result c.run_on-stretch.ensures.stretch

pub returns-then-not-may_tell-clause-halted : goal.returns-then-not-may_tell-clause-halted
returns-then-not-may_tell-clause-halted g c =
    λ going. sym (goes_on_quiet c.args.machine.now c.run_on-stretch.new.self c.args.hart c.args.most c.run_on-stretch.new.out
    c.run_on-stretch.result c.run_on-stretch.ensures.stretch (sym c.if-not-may_tell.ensures) going)

pub returns-then-not-may_tell-clause-stands : goal.returns-then-not-may_tell-clause-stands
returns-then-not-may_tell-clause-stands g c =
    λ p made s before going row has.
    row_quiet p c.args.machine.now going c.args.hart c.args.most row made s has.state c.run_on-stretch.new.self c.run_on-stretch.new.out
    c.run_on-stretch.result c.run_on-stretch.ensures.stretch c.args.self.now before
    (places (g.C.Sink.state c.args.console.now) c.args.shown.now (g.R.Sink.state c.args.report.now) c.args.told.now) has
    (sym c.if-not-may_tell.ensures)

-- what it adds was put
pub returns-in-Ok-clause-later : goal.returns-in-Ok-clause-later
returns-in-Ok-clause-later g c = later_row c.args.machine.now c.run_on-stretch.new.self c.args.hart c.args.most c.run_on-stretch.new.out
    c.run_on-stretch.result c.run_on-stretch.ensures.stretch

pub returns-in-Ok-clause-stands : goal.returns-in-Ok-clause-stands
returns-in-Ok-clause-stands g c =
    λ p made s before going row has.
    row_shown p c.args.machine.now going c.args.hart c.args.most row made s has.state c.run_on-stretch.new.self c.run_on-stretch.new.out
    c.run_on-stretch.result c.run_on-stretch.ensures.stretch c.args.self.now before
    (places (g.C.Sink.state c.args.console.now) c.args.shown.now (g.R.Sink.state c.args.report.now) c.args.told.now) has _ c.in-Ok.halted
    (places (g.C.Sink.state c.end_turn.new.console) c.end_turn.new.shown (g.R.Sink.state c.end_turn.new.report) c.end_turn.new.told)
    c.in-Ok.ensures.shows

-- or couldn't be put
pub returns-in-Err-clause-later : goal.returns-in-Err-clause-later
returns-in-Err-clause-later g c =
    let later = later_row c.args.machine.now c.run_on-stretch.new.self c.args.hart c.args.most c.run_on-stretch.new.out
    c.run_on-stretch.result c.run_on-stretch.ensures.stretch in
    (later.0, later.1, later.2, tt)

pub returns-in-Err-clause-stands : goal.returns-in-Err-clause-stands
returns-in-Err-clause-stands g c =
    λ p made s before going row has.
    row_stopped p c.args.machine.now going c.args.hart c.args.most row made s has.state c.run_on-stretch.new.self c.run_on-stretch.new.out
    c.run_on-stretch.result c.run_on-stretch.ensures.stretch c.args.self.now before
    (places (g.C.Sink.state c.args.console.now) c.args.shown.now (g.R.Sink.state c.args.report.now) c.args.told.now) has (Unit {0})
    (places (g.C.Sink.state c.end_turn.new.console) c.end_turn.new.shown (g.R.Sink.state c.end_turn.new.report) c.end_turn.new.told)
    c.in-Err.fault c.in-Err.ensures.shows
