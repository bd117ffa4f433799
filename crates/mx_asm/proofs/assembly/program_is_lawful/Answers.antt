use Rattle.mx_asm.proofs.LawfulLaws.{program_lawful}
use Rattle.mx_asm.proofs.assembly.program_is_lawful.Goals as goal

pub returns : goal.returns
returns c = program_lawful
