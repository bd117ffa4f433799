use Rattle.std.proofs.Common.{Option, subst}
use Rattle.mx_manifest.specs.declared.fault.Key.{Key}
use Rattle.mx_turns.specs.Ends.{sinks}
use Rattle.mx_commands.specs.Asked.{pair_asked}
use Rattle.mx_commands.specs.Compared.{alike, unlike}
use Rattle.mx_commands.specs.Ends.{Ends}
use Rattle.mx_commands.proofs.comparing.compare_plans.Goals as goal

pub returns-in-Some : goal.returns-in-Some
returns-in-Some g c =
    λ s t first second console dump.
    subst
    (λ (k : Option Key). Ends (unlike k (alike (pair_asked c.args.pair.now) c.args.plan.now s t))
    (sinks console (g.R.Sink.state c.args.report.now) dump)
    (sinks console (g.R.Sink.state c.refuse.new.report) dump) c.refuse.result)
    c.in-Some.ensures (c.refuse.ensures console dump)

pub returns-in-None : goal.returns-in-None
returns-in-None g c =
    λ s t first second console dump.
    subst
    (λ (k : Option Key). Ends (unlike k (alike (pair_asked c.args.pair.now) c.args.plan.now s t))
    (sinks console (g.R.Sink.state c.args.report.now) dump)
    (sinks console (g.R.Sink.state c.compare_alike.new.report) dump) c.compare_alike.result)
    c.in-None.ensures (c.compare_alike.ensures s t first second console dump)
