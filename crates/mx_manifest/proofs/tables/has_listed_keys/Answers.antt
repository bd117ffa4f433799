use Rattle.std.proofs.Common.{◌∙◌, ◌++◌, [], ap}
use Rattle.std.specs.List.{list_all}
use Rattle.std.specs.Option.{option_map_or}
use Rattle.mx_manifest.specs.Reads.{member_names}
use Rattle.mx_manifest.specs.Faults.{is_listed}
use Rattle.mx_manifest.proofs.Values.{all_names}
use Rattle.mx_manifest.proofs.tables.has_listed_keys.Goals as goal

pub returns-in-Some : goal.returns-in-Some
returns-in-Some c =
    let test = is_listed (c.args.rows.now ++ c.args.more.now) in
    c.are_listed.ensures
    ∙ all_names test c.in-Some.members.now.entries
    ∙ ap (λ t. list_all test (option_map_or member_names t [])) c.in-Some.ensures
