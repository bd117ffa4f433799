use Rattle.std.proofs.Common.{rules}
use Rattle.mx_source.specs.Fields.{label_fields}
use Rattle.mx_source.proofs.fields.label_fields.Goals as goal

pub returns-clause-fields : goal.returns-clause-fields
unfolding label_fields
returns-clause-fields c = search rules
