use Rattle.mx_run.specs.Words.{meaning}
use Rattle.mx_run.proofs.Promises.{answered_for, headline_for, complete_for}
use Rattle.mx_run.proofs.RanLaw.{ran-plainly}
use Rattle.mx_run.proofs.RefusalLaw.{refuses-by-line}
use Rattle.mx_run.proofs.RunLaw.{assembles-plainly, audits-plainly, compares-smoothly, counts-smoothly, mills-plainly, resumes-smoothly}
use Rattle.mx_run.proofs.RunLaw.{runs-plainly, traces-smoothly}
use Rattle.mx_run.proofs.top.mondrix.Goals as goal

pub returns-clause-answered : goal.returns-clause-answered
returns-clause-answered g c =
    answered_for g.S.Store.state g.S.Store.gives g.met.S.Store.tells _ _ (meaning c.args.words.now) _ _ _ c.react.ensures

pub returns-clause-headline : goal.returns-clause-headline
returns-clause-headline g c =
    headline_for g.S.Store.state g.S.Store.gives g.met.S.Store.tells _ _ (meaning c.args.words.now) _ _ _ c.react.ensures

pub returns-clause-complete : goal.returns-clause-complete
returns-clause-complete g c =
    complete_for g.S.Store.state g.S.Store.gives g.met.S.Store.tells _ _ (meaning c.args.words.now) _ _ _ c.react.ensures

pub returns-clause-run : goal.returns-clause-run
returns-clause-run g c =
    runs-plainly c.args.words.now _ _ _ _ _ (headline_for g.S.Store.state g.S.Store.gives g.met.S.Store.tells _ _ (meaning c.args.words.now)
    _ _ _ c.react.ensures)

pub returns-clause-asm : goal.returns-clause-asm
returns-clause-asm g c =
    assembles-plainly c.args.words.now _ _ _ _ _ (headline_for g.S.Store.state g.S.Store.gives g.met.S.Store.tells _ _
    (meaning c.args.words.now) _ _ _ c.react.ensures)

pub returns-clause-audit : goal.returns-clause-audit
returns-clause-audit g c =
    audits-plainly c.args.words.now _ _ _ _ _ (headline_for g.S.Store.state g.S.Store.gives g.met.S.Store.tells _ _
    (meaning c.args.words.now) _ _ _ c.react.ensures)

pub returns-clause-mill : goal.returns-clause-mill
returns-clause-mill g c =
    mills-plainly c.args.words.now _ _ _ _ _ (headline_for g.S.Store.state g.S.Store.gives g.met.S.Store.tells _ _
    (meaning c.args.words.now) _ _ _ c.react.ensures)

pub returns-clause-counted : goal.returns-clause-counted
returns-clause-counted g c =
    counts-smoothly c.args.words.now _ _ _ _ _ (headline_for g.S.Store.state g.S.Store.gives g.met.S.Store.tells _ _
    (meaning c.args.words.now) _ _ _ c.react.ensures)

pub returns-clause-resume : goal.returns-clause-resume
returns-clause-resume g c =
    resumes-smoothly c.args.words.now _ _ _ _ _ (headline_for g.S.Store.state g.S.Store.gives g.met.S.Store.tells _ _
    (meaning c.args.words.now) _ _ _ c.react.ensures)

pub returns-clause-trace : goal.returns-clause-trace
returns-clause-trace g c =
    traces-smoothly c.args.words.now _ _ _ _ _ (headline_for g.S.Store.state g.S.Store.gives g.met.S.Store.tells _ _
    (meaning c.args.words.now) _ _ _ c.react.ensures)

pub returns-clause-twin : goal.returns-clause-twin
returns-clause-twin g c =
    compares-smoothly c.args.words.now _ _ _ _ _ (headline_for g.S.Store.state g.S.Store.gives g.met.S.Store.tells _ _
    (meaning c.args.words.now) _ _ _ c.react.ensures)

pub returns-clause-ran : goal.returns-clause-ran
returns-clause-ran g c =
    ran-plainly c.args.words.now _ _ _ _ _ (headline_for g.S.Store.state g.S.Store.gives g.met.S.Store.tells _ _ (meaning c.args.words.now)
    _ _ _ c.react.ensures)

pub returns-clause-refused : goal.returns-clause-refused
returns-clause-refused g c =
    refuses-by-line c.args.words.now _ _ _ _ _ (headline_for g.S.Store.state g.S.Store.gives g.met.S.Store.tells _ _
    (meaning c.args.words.now) _ _ _ c.react.ensures)
