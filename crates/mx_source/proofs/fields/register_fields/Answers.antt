use Rattle.std.proofs.Common.{rules}
use Rattle.mx_source.specs.Fields.{register_fields}
use Rattle.mx_source.proofs.fields.register_fields.Goals as goal

pub returns-clause-fields : goal.returns-clause-fields
unfolding register_fields
returns-clause-fields c = search rules
