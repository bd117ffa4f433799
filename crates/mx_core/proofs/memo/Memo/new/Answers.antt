use Rattle.std.proofs.Common.{inl, refl, arith}
use Rattle.std.proofs.lemmas.List.{length-replicate}
use Rattle.std.proofs.lemmas.List.Elements.{All-replicate}
use Rattle.mx_isa.specs.Fields.{extended, imm_i}
use Rattle.mx_isa.specs.Ranges.{IsValid}
use Rattle.mx_isa.specs.Table.{decoded}
use Rattle.mx_isa.specs.declared.inst.ImmOp.TheVariants.{Addi}
use Rattle.mx_isa.specs.declared.inst.Inst.TheVariants.{OpImm}
use Rattle.mx_core.specs.declared.memo.Entry.{Entry}
use Rattle.mx_core.specs.Memo.{IsDecoded}
use Rattle.mx_core.proofs.memo.Memo.new.Goals as goal

pub invariant_of-result : goal.invariant_of-result
unfolding decoded imm_i extended IsValid
invariant_of-result c =
    let nop : Entry = record { word = 19; inst = OpImm Addi 0 0 0 } in
    let is : IsDecoded nop = record { inst = refl; valid = (omega arith, omega arith, inl (omega arith)) } in
    (length-replicate 1024 nop, All-replicate IsDecoded 1024 nop is)
