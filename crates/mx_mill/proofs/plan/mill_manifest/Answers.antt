use Rattle.std.proofs.Common.{◌≤◌, Some, ap, sym, ◌∙◌}
use Rattle.toml.specs.Data.{members_depth, members_have_valid_dates}
use Rattle.toml.specs.View.{table_view}
use Rattle.mx_mill.proofs.TableLaws.{dates_valid, not_deep}
use Rattle.mx_mill.proofs.plan.mill_manifest.Goals as goal

pub returns-in-Ok : goal.returns-in-Ok
returns-in-Ok c =
    let table = c.in_ok-table.ensures in
    let flat : members_depth (table_view c.in_ok-table.table) ≤ 80 = rw table (not_deep c.args.k) in
    c.in-Ok.ensures.reads_back flat ∙ ap Some table

pub unreachable-requires : goal.unreachable-requires
unreachable-requires c =
    let table = c.in_ok-table.ensures in
    let valid = ap members_have_valid_dates table ∙ dates_valid c.args.k in
    let invalid = c.table_to_string.ensures.dates.0 (rw (← c.in-Err-DateInvalid.field-0-is) c.in-Err-DateInvalid.is) in
    let both = sym valid ∙ invalid in
    cc
