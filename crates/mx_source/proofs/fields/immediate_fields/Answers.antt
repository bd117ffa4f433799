use Rattle.std.proofs.Common.{rules}
use Rattle.mx_source.specs.Fields.{immediate_fields}
use Rattle.mx_source.proofs.fields.immediate_fields.Goals as goal

pub returns-clause-fields : goal.returns-clause-fields
unfolding immediate_fields
returns-clause-fields c = search rules
