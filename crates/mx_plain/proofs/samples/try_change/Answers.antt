use Rattle.std.proofs.Common.{List, length, ap, ◌∙◌}
use Rattle.mx_words.specs.declared.perm.Perm.{Perm}
use Rattle.mx_words.proofs.ChangeLaws.{length-changed_from}
use Rattle.mx_table.specs.Change.{given}
use Rattle.mx_plain.proofs.samples.try_change.Goals as goal

pub returns-then-fits-clause-same_modules : goal.returns-then-fits-clause-same_modules
returns-then-fits-clause-same_modules g c =
    let change = c.args.change.now in
    ap (λ (ms : List (List Perm)). length ms) c.apply.ensures.changed
    ∙ length-changed_from change.first change.count (given change) 1 (g.T.PermTables.maps c.args.tables.now)
