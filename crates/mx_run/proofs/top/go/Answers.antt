use Rattle.mx_commands.specs.declared.order.Way.TheVariants.{Run, Resume, Trace}
use Rattle.mx_commands.specs.Asked.{order_of}
use Rattle.mx_run.proofs.Reactions.{continues_way}
use Rattle.mx_run.proofs.top.go.Goals as goal

pub returns-in-Run : goal.returns-in-Run
returns-in-Run g c = continues_way g.S.Store.gives (order_of c.args.order.now) Run c.in-Run.is _ _ c.run_manifest.ensures

pub returns-in-Resume : goal.returns-in-Resume
returns-in-Resume g c = continues_way g.S.Store.gives (order_of c.args.order.now) Resume c.in-Resume.is _ _ c.resume_snapshot.ensures

pub returns-in-Trace : goal.returns-in-Trace
returns-in-Trace g c = continues_way g.S.Store.gives (order_of c.args.order.now) Trace c.in-Trace.is _ _ c.run_manifest-in-Trace.ensures
