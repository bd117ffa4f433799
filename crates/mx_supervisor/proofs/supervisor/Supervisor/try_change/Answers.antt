use Rattle.std.proofs.Common.{◌≡◌, ◌∙◌, arith}
use Rattle.mx_words.specs.Changes.{changed_maps}
use Rattle.mx_supervisor.proofs.Changing.{may-change, changed-as, fits-as, on-ok, on-err}
use Rattle.mx_supervisor.proofs.supervisor.Supervisor.try_change.Goals as goal

pub change-requires : goal.change-requires
change-requires g c = (
  omega arith,
  (
    may-change _ c.args.call.now c.args.change.now c.requires.announced
        c.requires.inside,
    c.requires.lawful,
  ),
)

pub returns-clause-fits : goal.returns-clause-fits
returns-clause-fits g c = λ first count given gives.
    let maps = g.T.PermTables.maps c.args.self.now.checker.tables in
    let same = changed-as c.args.change.now first count given maps gives in
    rw (← same) (fits-as _ _ _ c.is_ok.ensures.negation c.change.ensures.full)

pub returns-clause-done : goal.returns-clause-done
returns-clause-done g c = λ first count given gives e.
    let maps = g.T.PermTables.maps c.args.self.now.checker.tables in
    let same : g.T.PermTables.maps c.change.new.self.tables ≡ changed_maps first count given maps =
    on-ok _ _ c.is_ok.ensures.value e c.change.ensures.ok ∙ changed-as c.args.change.now first count given maps gives in
    rw (same, c.change.ensures.same_size, c.change.ensures.same_limit, c.change.ensures.same_harts)

pub returns-clause-kept : goal.returns-clause-kept
returns-clause-kept g c = λ e.
    rw (on-err _ _ c.is_ok.ensures.value e c.change.ensures.err)
