use Rattle.std.proofs.Common.{◌≡◌, ap}
use Rattle.mx_any.specs.Machines.{meaning}
use Rattle.mx_model.specs.State.{State, Flat, flat}
use Rattle.mx_turns.specs.Runs.{dumped}
use Rattle.mx_turns.specs.Running.{IsNew, states_of, texts_of}
use Rattle.mx_turns.proofs.Closings.{ends_before, leave_dumped, leave_undumped}
use Rattle.mx_turns.proofs.Sinking.{breaks_of, breaks_same, put_of, put_same}
use Rattle.mx_turns.proofs.running.make_run.Goals as goal

pub returns-in-Ok-put_dump-clause-leave : goal.returns-in-Ok-put_dump-clause-leave
returns-in-Ok-put_dump-clause-leave g c =
    λ s new is.
    let ends = c.in-Ok.ensures.ends s new is (g.D.Sink.state c.args.dump.now) in
    leave_dumped (texts_of c.args.kept.now c.args.task.now s) _ _ _ _ _ ends.0 _
    (put_same _ _ _ _ (ap (λ (f : Flat). dumped c.args.task.now.dump c.args.kept.now f) ends.1) (put_of c.in-Ok-put_dump.ensures))

pub returns-in-Ok-put_dump-clause-turns : goal.returns-in-Ok-put_dump-clause-turns
returns-in-Ok-put_dump-clause-turns g c = λ s new is. (c.in-Ok.ensures.ends s new is (g.D.Sink.state c.args.dump.now)).1

pub returns-in-Err-put_dump-clause-leave : goal.returns-in-Err-put_dump-clause-leave
returns-in-Err-put_dump-clause-leave g c =
    λ s new is.
    let breaks = breaks_of c.in-Err-put_dump.ensures in
    let ends = c.in-Ok.ensures.ends s new is (g.D.Sink.state c.args.dump.now) in
    leave_undumped (texts_of c.args.kept.now c.args.task.now s) _ _ _ _ _ ends.0 _
    (breaks.0, breaks_same breaks.0 _ _ _ _ (ap (λ (f : Flat). dumped c.args.task.now.dump c.args.kept.now f) ends.1) breaks.1)

pub returns-in-Err-put_dump-clause-turns : goal.returns-in-Err-put_dump-clause-turns
returns-in-Err-put_dump-clause-turns g c = λ s new is. (c.in-Ok.ensures.ends s new is (g.D.Sink.state c.args.dump.now)).1

pub returns-in-Err : goal.returns-in-Err
returns-in-Err g c =
    let ends = λ (s : State) (new : IsNew s) (is : meaning c.args.machine.now ≡ flat s).
    ends_before (texts_of c.args.kept.now c.args.task.now s) _ _ _ _ _ (states_of c.args.task.now s) (meaning c.run_any.new.machine)
    c.in-Err.fault
    (c.in-Err.ensures.ends s new is (g.D.Sink.state c.args.dump.now)) in
    record { leave = λ s new is. (ends s new is).0; turns = λ s new is. (ends s new is).1 }
