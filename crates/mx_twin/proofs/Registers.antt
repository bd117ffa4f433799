-- The base register of a store.
use Rattle.std.proofs.Common.{◌≡◌, ℕ, ◌<◌, subst}
use Rattle.mx_isa.specs.declared.inst.Inst.{Inst}
use Rattle.mx_isa.specs.declared.inst.Inst.TheVariants.{Store}
use Rattle.mx_isa.specs.declared.inst.StoreWidth.{StoreWidth}
use Rattle.mx_isa.specs.Ranges.{IsValid}

pub store-register : (i : Inst) (width : StoreWidth) (rs1 rs2 imm : ℕ) → i ≡ Store width rs1 rs2 imm → IsValid i → rs1 < 32
unfolding IsValid
store-register i width rs1 rs2 imm e v = (subst IsValid e v).0
