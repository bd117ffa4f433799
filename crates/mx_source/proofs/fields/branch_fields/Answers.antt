use Rattle.std.proofs.Common.{rules}
use Rattle.mx_source.specs.Fields.{branch_fields}
use Rattle.mx_source.proofs.fields.branch_fields.Goals as goal

pub returns-clause-fields : goal.returns-clause-fields
unfolding branch_fields
returns-clause-fields c = search rules
