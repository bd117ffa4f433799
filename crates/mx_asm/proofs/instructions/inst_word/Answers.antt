use Rattle.mx_source.specs.FieldViews.{fields_view}
use Rattle.mx_asm.proofs.InstLaws.{inst_valid}
use Rattle.mx_asm.proofs.instructions.inst_word.Goals as goal

pub encode-requires : goal.encode-requires
encode-requires c =
    rw (c.inst.ensures, c.number_bits.ensures)
    (inst_valid c.offset.result c.args.form (fields_view c.args.fields) c.requires.registers (rw c.offset.ensures c.requires.fits))
