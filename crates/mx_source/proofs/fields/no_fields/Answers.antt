use Rattle.std.proofs.Common.{◌∙◌, sym, refl}
use Rattle.mx_source.specs.Fields.{no_fields}
use Rattle.mx_source.proofs.Steps.{pieces-some}
use Rattle.mx_source.proofs.fields.no_fields.Goals as goal

pub returns-else-is_empty-clause-fields : goal.returns-else-is_empty-clause-fields
unfolding no_fields
returns-else-is_empty-clause-fields c = rw (pieces-some c.args.operands.now (sym c.is_empty.ensures ∙ c.if-is_empty.false)) refl
