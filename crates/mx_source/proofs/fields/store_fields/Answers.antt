use Rattle.std.proofs.Common.{rules}
use Rattle.mx_source.specs.Fields.{store_fields}
use Rattle.mx_source.proofs.fields.store_fields.Goals as goal

pub returns-clause-fields : goal.returns-clause-fields
unfolding store_fields
returns-clause-fields c = search rules
