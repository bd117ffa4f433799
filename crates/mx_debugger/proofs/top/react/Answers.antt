use Rattle.std.proofs.Common.{◌≡◌, Option, Some, None, refl, subst}
use Rattle.mx_commands.specs.Asked.{order_of}
use Rattle.mx_commands.specs.Order.{Order}
use Rattle.mx_run.specs.Words.{debug_meaning}
use Rattle.mx_debugger.specs.Debugs.{Debugs}
use Rattle.mx_debugger.proofs.top.react.Goals as goal

pub returns-in-Some : goal.returns-in-Some
returns-in-Some g c =
    let asked : Some (order_of c.in-Some.order) ≡ debug_meaning c.args.words.now = c.in-Some.ensures.meaning in
    subst
    (λ (a : Option Order). Debugs g.S.Store.gives g.L.Line.hears g.L.Line.says g.L.Line.room a c.args.store.now c.debug_manifest.new.store
    c.args.line.now c.debug_manifest.new.line
    (g.R.Sink.state c.args.report.now) (g.R.Sink.state c.debug_manifest.new.report) c.debug_manifest.result)
    asked c.debug_manifest.ensures

pub returns-in-None : goal.returns-in-None
returns-in-None g c =
    let asked : None ≡ debug_meaning c.args.words.now = c.in-None.ensures.meaning in
    subst
    (λ (a : Option Order). Debugs g.S.Store.gives g.L.Line.hears g.L.Line.says g.L.Line.room a c.args.store.now c.args.store.now
    c.args.line.now c.args.line.now
    (g.R.Sink.state c.args.report.now) (g.R.Sink.state c.refuse.new.report) c.refuse.result)
    asked (record { unread = refl; quiet = refl; ends = c.refuse.ensures })
