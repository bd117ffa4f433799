use Rattle.std.proofs.Common.{◌∙◌, ap, map, sym}
use Rattle.std.specs.List.{list_all}
use Rattle.std.proofs.lemmas.List.Folds.{list_all-map}
use Rattle.toml.specs.View.{view}
use Rattle.mx_manifest.specs.Reads.{text_of}
use Rattle.mx_manifest.specs.Faults.{is_other}
use Rattle.mx_manifest.proofs.Values.{all_data}
use Rattle.mx_manifest.proofs.names.is_from_others.Goals as goal

pub returns : goal.returns
returns c =
    let test = is_other c.args.names.now c.args.n in
    let values = c.from_values.result.now in
    c.are_others.ensures
    ∙ all_data (λ d. test (text_of d)) values
    ∙ sym (list_all-map test text_of (map view values))
    ∙ ap (list_all test) c.from_values.ensures
