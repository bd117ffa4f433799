use Rattle.std.proofs.Common.{Bool, refl, subst, sym}
use Rattle.mx_turns.specs.Ends.{sinks}
use Rattle.mx_commands.specs.Asked.{pair_asked}
use Rattle.mx_commands.specs.Compared.{alike_by}
use Rattle.mx_commands.specs.Ends.{Ends}
use Rattle.mx_commands.proofs.comparing.compare_alike.Goals as goal

pub returns-in-Some : goal.returns-in-Some
returns-in-Some g c =
    let found = c.in-Some.ensures.some in
    λ s t first second console dump.
    subst
    (λ (b : Bool). Ends (alike_by b (pair_asked c.args.pair.now) c.args.plan.now s t)
    (sinks console (g.R.Sink.state c.args.report.now) dump)
    (sinks console (g.R.Sink.state c.watch.new.report) dump) c.watch.result)
    (sym found.1) (rw (found.0, c.quantum.ensures.value, first, second) at (c.watch.ensures console dump))

pub returns-in-None : goal.returns-in-None
returns-in-None g c =
    λ s t first second console dump.
    subst
    (λ (b : Bool). Ends (alike_by b (pair_asked c.args.pair.now) c.args.plan.now s t)
    (sinks console (g.R.Sink.state c.args.report.now) dump)
    (sinks console (g.R.Sink.state c.refuse.new.report) dump) c.refuse.result)
    (sym (c.in-None.ensures.none refl)) (c.refuse.ensures console dump)
