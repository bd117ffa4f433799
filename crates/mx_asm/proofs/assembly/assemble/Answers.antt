use Rattle.std.proofs.Common.{◌∙◌, sym}
use Rattle.mx_asm.proofs.LawfulLaws.{program_lawful}
use Rattle.mx_asm.proofs.assembly.assemble.Goals as goal

pub write-requires : goal.write-requires
write-requires c = rw c.in_ok-program.ensures (program_lawful c.args.text.now c.requires (sym c.first_fault.ensures
    ∙ c.in_default.is)).sized
