use Rattle.std.proofs.Common.{inl, inr}
use Rattle.mx_commands.proofs.running.make_by.Goals as goal

pub returns-in-Run : goal.returns-in-Run
returns-in-Run g c =
    λ s new is.
    let t = c.task_of.ensures in
    let leaves = rw (t.steps, t.schedule, t.options, t.dump) at (c.make_run.ensures.leave s new is) in
    elim c.in-Run.is [ inl runs ↦ rw runs leaves | inr resumes ↦ rw resumes leaves ]

pub returns-in-Trace : goal.returns-in-Trace
returns-in-Trace g c =
    λ s new is.
    let t = c.trace_of.ensures in
    rw c.in-Trace.is (rw (t.steps, t.schedule, t.lines) at (c.make_trace.ensures.leave s new is (g.D.Sink.state c.args.dump.now)))
