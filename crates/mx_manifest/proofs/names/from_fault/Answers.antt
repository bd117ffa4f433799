use Rattle.std.proofs.Common.{◌∙◌, ap, not}
use Rattle.std.specs.List.{list_all}
use Rattle.mx_manifest.specs.declared.fault.Key.TheVariants as key
use Rattle.mx_manifest.specs.Faults.{fault_where, is_from_others}
use Rattle.mx_manifest.proofs.Values.{all_data}
use Rattle.mx_manifest.proofs.names.from_fault.Goals as goal

pub returns : goal.returns
returns c =
    let test = is_from_others c.args.names.now c.args.n in
    c.fault_where.ensures
    ∙ ap (λ all. fault_where (not all) 8 key.Gates)
    (c.are_from_others-all.ensures ∙ all_data test c.elements_at.result.now ∙ ap (list_all test) c.elements_at.ensures)
