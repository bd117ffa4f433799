use Rattle.std.proofs.Common.{ℕ, List, ap}
use Rattle.mx_supervisor.specs.Parts.{parts_of}
use Rattle.mx_supervisor.proofs.Changing.{on-ok, on-err}
use Rattle.mx_supervisor.proofs.supervisor.Supervisor.try_give.Goals as goal

pub returns-clause-done : goal.returns-clause-done
returns-clause-done g c = λ e.
    ap (λ (o : List ℕ). record (parts_of g.T.PermTables c.args.self.now) { owners = o })
    (on-ok _ _ c.is_ok.ensures.value e c.give.ensures.ok)

pub returns-clause-kept : goal.returns-clause-kept
returns-clause-kept g c = λ e.
    ap (λ (o : List ℕ). record (parts_of g.T.PermTables c.args.self.now) { owners = o })
    (on-err _ _ c.is_ok.ensures.value e c.give.ensures.unchanged)
