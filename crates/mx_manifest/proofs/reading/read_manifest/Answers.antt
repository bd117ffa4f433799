use Rattle.std.proofs.Common.{◌≡◌, ◌∙◌, Err, sym, subst, rules}
use Rattle.toml.specs.Data.{table}
use Rattle.toml.specs.View.{table_view}
use Rattle.mx_manifest.specs.InRange.{IsInRange}
use Rattle.mx_manifest.specs.Judged.{IsJudged}
use Rattle.mx_manifest.specs.Faults.{modules}
use Rattle.mx_manifest.proofs.Judging.{tables_of, first_tables, first_none, names_at_most, modules_at_most, harts_at_most, tells_names}
use Rattle.mx_manifest.proofs.Plans.{in_range}
use Rattle.mx_manifest.proofs.reading.read_manifest.Goals as goal

pub returns-in-Some : goal.returns-in-Some
returns-in-Some c =
    let top = table (table_view c.args.table.now) in
    record {
      in_range = tt;
      judged = first_tables top c.in-Some.fault (tables_of top _ _ c.version_of-version.ensures c.tables_fault.ensures
          ∙ c.in-Some.is);
    }

pub resolve_names-requires-clause-modules : goal.resolve_names-requires-clause-modules
resolve_names-requires-clause-modules c =
    let top = table (table_view c.args.table.now) in
    modules_at_most top (tables_of top _ _ c.version_of-version.ensures c.tables_fault.ensures ∙ c.in_default.is)

pub resolve_names-requires-clause-harts : goal.resolve_names-requires-clause-harts
resolve_names-requires-clause-harts c =
    let top = table (table_view c.args.table.now) in
    harts_at_most top (tables_of top _ _ c.version_of-version.ensures c.tables_fault.ensures ∙ c.in_default.is)

pub plan_of-requires-clause-few : goal.plan_of-requires-clause-few
plan_of-requires-clause-few c =
    let top = table (table_view c.args.table.now) in
    names_at_most c.in_ok-names.names (modules top) c.in_ok-names.ensures.names
    (modules_at_most top (tables_of top _ _ c.version_of-version.ensures c.tables_fault.ensures ∙ c.in_default.is))

pub returns-in-Ok : goal.returns-in-Ok
returns-in-Ok c =
    let top = table (table_view c.args.table.now) in
    let none = first_none top (tables_of top _ _ c.version_of-version.ensures c.tables_fault.ensures ∙ c.in_default.is)
    c.in_ok-names.ensures.clear in
    record { judged = (none, c.in-Ok.ensures); in_range = subst IsInRange (sym c.in-Ok.ensures) (in_range top none) }

pub plan_of-requires-clause-in_range : goal.plan_of-requires-clause-in_range
plan_of-requires-clause-in_range c =
    let top = table (table_view c.args.table.now) in
    in_range top (first_none top (tables_of top _ _ c.version_of-version.ensures c.tables_fault.ensures ∙ c.in_default.is)
    c.in_ok-names.ensures.clear)

pub returns-in_err-names-clause-judged : goal.returns-in_err-names-clause-judged
returns-in_err-names-clause-judged c =
    let top = table (table_view c.args.table.now) in
    let given : c.from_residual.result ≡ Err c.in_err-names.field-0.0 = search rules in
    subst (IsJudged (table_view c.args.table.now)) (sym given)
    (tells_names top _ (tables_of top _ _ c.version_of-version.ensures c.tables_fault.ensures ∙ c.in_default.is)
    c.in_err-names.ensures.fault)
