use Rattle.toml.specs.View.{view}
use Rattle.mx_manifest.proofs.Values.{array_ranged}
use Rattle.mx_manifest.proofs.forms.is_ranged.Goals as goal

pub returns-in-Array : goal.returns-in-Array
returns-in-Array c =
    array_ranged c.args.form c.in-Array.low c.in-Array.high c.in-Array.item c.elements.result.now (view c.args.value.now) c.is_array.result
    c.is_array.ensures c.elements.ensures c.in-Array.is
