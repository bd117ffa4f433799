use Rattle.std.proofs.Common.{arith}
use Rattle.mx_commands.proofs.Documents.{assembled_none, assembled_source}
use Rattle.mx_commands.proofs.assembling.assemble_bytes.Goals as goal

pub returns-in-Ok : goal.returns-in-Ok
returns-in-Ok g c = grind (arith, assembled_source)

pub returns-in-Err : goal.returns-in-Err
returns-in-Err g c = grind (arith, assembled_none)
