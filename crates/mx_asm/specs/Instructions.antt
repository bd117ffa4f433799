-- The instruction that a form with its fields is, and the two of `li` and `la`.
-- The rules: docs/COMMANDS.md, "The source".
use Rattle.std.specs.Prelude.{ℕ, ◌+◌, ◌-◌, ◌*◌, ◌/◌, ◌%◌, ◌^◌, List}
use Rattle.mx_isa.specs.declared.inst.Inst.{Inst}
use Rattle.mx_isa.specs.declared.inst.Inst.TheVariants as insts
use Rattle.mx_isa.specs.declared.inst.ImmOp.TheVariants.{Addi}
use Rattle.mx_source.specs.declared.number.Number.{Number}
use Rattle.mx_source.specs.declared.mnemonics.Form.{Form}
use Rattle.mx_source.specs.declared.mnemonics.Form.TheVariants.{Lui, Auipc, Jal, Jalr, Branch, Load, Store, OpImm, Op, Fence, Ecall, Ebreak}
use Rattle.mx_source.specs.Numbers.{number_bits, difference}
use Rattle.mx_source.specs.Fields.{Value, Given, Label, Fields}
use Rattle.mx_asm.specs.Labels.{Definition, address_of_label}

-- the number that a value is for an instruction at an address: a label is the offset to it
abbrev pub offset_of : List Definition → ℕ → Value → Number
offset_of labels here (Given n) = n
offset_of labels here (Label name) = difference (address_of_label labels name) here

-- the 32 bits of a value: a label is its address
abbrev pub bits_of_value : List Definition → Value → ℕ
bits_of_value labels (Given n) = number_bits n
bits_of_value labels (Label name) = address_of_label labels name % 2 ^ 32

-- the instruction with fields and the 32 bits of its number
unfoldable pub inst_of : Form → Fields → ℕ → Inst
inst_of Lui f imm = insts.Lui f.rd (imm * 4096 % 2 ^ 32)
inst_of Auipc f imm = insts.Auipc f.rd (imm * 4096 % 2 ^ 32)
inst_of Jal f imm = insts.Jal f.rd imm
inst_of Jalr f imm = insts.Jalr f.rd f.rs1 imm
inst_of (Branch cond) f imm = insts.Branch cond f.rs1 f.rs2 imm
inst_of (Load width) f imm = insts.Load width f.rd f.rs1 imm
inst_of (Store width) f imm = insts.Store width f.rs1 f.rs2 imm
inst_of (OpImm op) f imm = insts.OpImm op f.rd f.rs1 imm
inst_of (Op op) f imm = insts.Op op f.rd f.rs1 f.rs2
inst_of Fence f imm = insts.Fence imm
inst_of Ecall f imm = insts.Ecall
inst_of Ebreak f imm = insts.Ebreak

-- the upper 20 bits of a value, with the carry of its low 12 bits, which are read as signed
abbrev pub upper_part : ℕ → ℕ
upper_part a = (a + 0x800) % 2 ^ 32 / 4096

-- the low 12 bits, extended
abbrev pub low_part : ℕ → ℕ
low_part a = (a + 2 ^ 32 - 4096 * upper_part a) % 2 ^ 32

-- `lui rd, h` and `addi rd, rd, l`
abbrev pub upper_inst : ℕ → ℕ → Inst
upper_inst rd a = insts.Lui rd (upper_part a * 4096)

abbrev pub low_inst : ℕ → ℕ → Inst
low_inst rd a = insts.OpImm Addi rd rd (low_part a)
