use Rattle.std.proofs.Common.{◌∙◌, sym}
use Rattle.toml.specs.View.{view}
use Rattle.mx_manifest.proofs.Values.{array_typed}
use Rattle.mx_manifest.proofs.forms.is_typed.Goals as goal

pub returns-then-is_array : goal.returns-then-is_array
returns-then-is_array c =
    array_typed c.args.form c.in-Array.field-0 c.in-Array.field-1 c.in-Array.item c.elements.result.now (view c.args.value.now)
    c.are_typed.result
    c.are_typed.ensures c.elements.ensures (sym c.if-is_array.true ∙ c.is_array.ensures) c.in-Array.is
