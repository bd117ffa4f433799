use Rattle.mx_run.specs.Words.{debug_meaning}
use Rattle.mx_debugger.proofs.Asked.{asks_run}
use Rattle.mx_debugger.proofs.OverFiles.{completes_so, refuses_so, says_so, talks_so}
use Rattle.mx_debugger.proofs.top.debug.Goals as goal

pub returns-clause-talk : goal.returns-clause-talk
returns-clause-talk g c =
    talks_so g.S.Store.state g.S.Store.gives g.met.S.Store.tells g.L.Line.hears g.L.Line.says g.L.Line.room _ _ _ _ _ _ _
    (debug_meaning c.args.words.now) c.react.ensures

pub returns-clause-headline : goal.returns-clause-headline
returns-clause-headline g c =
    says_so g.S.Store.state g.S.Store.gives g.met.S.Store.tells g.L.Line.hears g.L.Line.says g.L.Line.room _ _ _ _ _ _ _
    (debug_meaning c.args.words.now) c.react.ensures

pub returns-clause-refused : goal.returns-clause-refused
returns-clause-refused g c =
    refuses_so g.S.Store.state g.S.Store.gives g.met.S.Store.tells g.L.Line.hears g.L.Line.says g.L.Line.room _ _ _ _ _ _ _
    (debug_meaning c.args.words.now) c.react.ensures
    (asks_run c.args.words.now)

pub returns-clause-complete : goal.returns-clause-complete
returns-clause-complete g c =
    completes_so g.S.Store.state g.S.Store.gives g.met.S.Store.tells g.L.Line.hears g.L.Line.says g.L.Line.room _ _ _ _ _ _ _
    (debug_meaning c.args.words.now) c.react.ensures
    (asks_run c.args.words.now)
