use Rattle.std.proofs.Common.{length, ap, ◌∙◌}
use Rattle.mx_table.proofs.ChangedMaps.{length-changed}
use Rattle.mx_table_tests.proofs.checks.runs.withdraw.Goals as goal

pub returns-in-Ok-clause-two : goal.returns-in-Ok-clause-two
returns-in-Ok-clause-two g c =
    rw c.finish.ensures
    (ap length c.in-Ok.ensures.ok ∙ length-changed c.withdrawal-change.result (g.T.PermTables.maps c.args.checker.now.tables)
    ∙ c.requires.two)
