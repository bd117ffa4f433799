-- The instruction table: which words stand for which instruction.
-- The rules: docs/MACHINE.md, "Instructions".
use Rattle.std.specs.Prelude.{ℕ, ◌+◌, ◌*◌, ◌^◌, ◌==◌, ◌&&◌, Bool, true, List, [], ◌∷◌, find, Option, Some, None, option_map}
use Rattle.std.specs.Prelude.{option_and_then, unwrap_or, is_some, if◌then◌else◌}
use Rattle.mx_isa.specs.declared.inst.Inst.{Inst}
use Rattle.mx_isa.specs.declared.inst.Inst.TheVariants.{Lui, Auipc, Jal, Jalr, Branch, Load, Store, OpImm, Op, Fence, Ecall, Ebreak}
use Rattle.mx_isa.specs.declared.inst.Cond.{Cond}
use Rattle.mx_isa.specs.declared.inst.Cond.TheVariants.{Beq, Bne, Blt, Bge, Bltu, Bgeu}
use Rattle.mx_isa.specs.declared.inst.LoadWidth.{LoadWidth}
use Rattle.mx_isa.specs.declared.inst.LoadWidth.TheVariants.{Lb, Lh, Lw, Lbu, Lhu}
use Rattle.mx_isa.specs.declared.inst.StoreWidth.{StoreWidth}
use Rattle.mx_isa.specs.declared.inst.StoreWidth.TheVariants.{Sb, Sh, Sw}
use Rattle.mx_isa.specs.declared.inst.ImmOp.{ImmOp}
use Rattle.mx_isa.specs.declared.inst.ImmOp.TheVariants.{Addi, Slti, Sltiu, Xori, Ori, Andi, Slli, Srli, Srai}
use Rattle.mx_isa.specs.declared.inst.RegOp.{RegOp}
use Rattle.mx_isa.specs.declared.inst.RegOp.TheVariants.{Add, Sub, Sll, Slt, Sltu, Xor, Srl, Sra, Or, And, Mul, Mulh, Mulhsu, Mulhu, Div}
use Rattle.mx_isa.specs.declared.inst.RegOp.TheVariants.{Divu, Rem, Remu}
use Rattle.mx_isa.specs.Fields.{bits_of, opcode_of, rd_of, f3_of, rs1_of, rs2_of, f7_of, imm_i, imm_s, imm_b, imm_u, imm_j, fence_fields}

-- f3 of each branch
abbrev pub cond_f3 : Cond → ℕ
cond_f3 Beq = 0
cond_f3 Bne = 1
cond_f3 Blt = 4
cond_f3 Bge = 5
cond_f3 Bltu = 6
cond_f3 Bgeu = 7

-- f3 of each load
abbrev pub load_f3 : LoadWidth → ℕ
load_f3 Lb = 0
load_f3 Lh = 1
load_f3 Lw = 2
load_f3 Lbu = 4
load_f3 Lhu = 5

-- f3 of each store
abbrev pub store_f3 : StoreWidth → ℕ
store_f3 Sb = 0
store_f3 Sh = 1
store_f3 Sw = 2

-- f3 of each operation with an immediate
abbrev pub imm_op_f3 : ImmOp → ℕ
imm_op_f3 Addi = 0
imm_op_f3 Slti = 2
imm_op_f3 Sltiu = 3
imm_op_f3 Xori = 4
imm_op_f3 Ori = 6
imm_op_f3 Andi = 7
imm_op_f3 Slli = 1
imm_op_f3 Srli = 5
imm_op_f3 Srai = 5

-- f7 of each shift by an immediate; the others have none
abbrev pub imm_op_f7 : ImmOp → Option ℕ
imm_op_f7 Slli = Some 0
imm_op_f7 Srli = Some 0
imm_op_f7 Srai = Some 0x20
imm_op_f7 _ = None

-- f3 of each operation on two registers
abbrev pub reg_op_f3 : RegOp → ℕ
reg_op_f3 Add = 0
reg_op_f3 Sub = 0
reg_op_f3 Sll = 1
reg_op_f3 Slt = 2
reg_op_f3 Sltu = 3
reg_op_f3 Xor = 4
reg_op_f3 Srl = 5
reg_op_f3 Sra = 5
reg_op_f3 Or = 6
reg_op_f3 And = 7
reg_op_f3 Mul = 0
reg_op_f3 Mulh = 1
reg_op_f3 Mulhsu = 2
reg_op_f3 Mulhu = 3
reg_op_f3 Div = 4
reg_op_f3 Divu = 5
reg_op_f3 Rem = 6
reg_op_f3 Remu = 7

-- f7 of each operation on two registers
abbrev pub reg_op_f7 : RegOp → ℕ
reg_op_f7 Add = 0
reg_op_f7 Sub = 0x20
reg_op_f7 Sll = 0
reg_op_f7 Slt = 0
reg_op_f7 Sltu = 0
reg_op_f7 Xor = 0
reg_op_f7 Srl = 0
reg_op_f7 Sra = 0x20
reg_op_f7 Or = 0
reg_op_f7 And = 0
reg_op_f7 Mul = 1
reg_op_f7 Mulh = 1
reg_op_f7 Mulhsu = 1
reg_op_f7 Mulhu = 1
reg_op_f7 Div = 1
reg_op_f7 Divu = 1
reg_op_f7 Rem = 1
reg_op_f7 Remu = 1

-- the branches
abbrev pub conds : List Cond
conds = Beq ∷ Bne ∷ Blt ∷ Bge ∷ Bltu ∷ Bgeu ∷ []

-- the loads
abbrev pub loads : List LoadWidth
loads = Lb ∷ Lh ∷ Lw ∷ Lbu ∷ Lhu ∷ []

-- the stores
abbrev pub stores : List StoreWidth
stores = Sb ∷ Sh ∷ Sw ∷ []

-- the operations with an immediate
abbrev pub imm_ops : List ImmOp
imm_ops = Addi ∷ Slti ∷ Sltiu ∷ Xori ∷ Ori ∷ Andi ∷ Slli ∷ Srli ∷ Srai ∷ []

-- the operations on two registers
abbrev pub reg_ops : List RegOp
reg_ops =
    Add ∷ Sub ∷ Sll ∷ Slt ∷ Sltu ∷ Xor ∷ Srl ∷ Sra ∷ Or ∷ And
    ∷ Mul ∷ Mulh ∷ Mulhsu ∷ Mulhu ∷ Div ∷ Divu ∷ Rem ∷ Remu ∷ []

-- the branch with this f3
abbrev pub cond_of : ℕ → Option Cond
cond_of f3 = find (λ c. cond_f3 c == f3) conds

-- the load with this f3
abbrev pub load_of : ℕ → Option LoadWidth
load_of f3 = find (λ x. load_f3 x == f3) loads

-- the store with this f3
abbrev pub store_of : ℕ → Option StoreWidth
store_of f3 = find (λ x. store_f3 x == f3) stores

-- whether f7 is the wanted one, where one is wanted
abbrev pub has_f7 : Option ℕ → ℕ → Bool
has_f7 None f7 = true
has_f7 (Some wanted) f7 = wanted == f7

-- the operation with an immediate that has this f3 and, as a shift, this f7
abbrev pub imm_op_of : ℕ → ℕ → Option ImmOp
imm_op_of f3 f7 = find (λ op. (imm_op_f3 op == f3) && has_f7 (imm_op_f7 op) f7) imm_ops

-- the operation on two registers with this f3 and f7
abbrev pub reg_op_of : ℕ → ℕ → Option RegOp
reg_op_of f3 f7 = find (λ op. (reg_op_f3 op == f3) && (reg_op_f7 op == f7)) reg_ops

-- a shift's immediate is its amount, bits 24..20
abbrev pub imm_of_op : ImmOp → ℕ → ℕ
imm_of_op op w = if is_some (imm_op_f7 op) then rs2_of w else imm_i w

-- what an opcode's words stand for
pub record Row : Type 0 where
  pub opcode : ℕ
  pub inst : ℕ → Option Inst

-- the rows of the table, one for each opcode
abbrev pub rows : List Row
rows =
    record { opcode = 0x37; inst = λ w. Some (Lui (rd_of w) (imm_u w)) }
    ∷ record { opcode = 0x17; inst = λ w. Some (Auipc (rd_of w) (imm_u w)) }
    ∷ record { opcode = 0x6F; inst = λ w. Some (Jal (rd_of w) (imm_j w)) }
    ∷ record {
      opcode = 0x67;
      inst = λ w. if f3_of w == 0
          then Some (Jalr (rd_of w) (rs1_of w) (imm_i w)) else None;
    }
    ∷ record {
      opcode = 0x63;
      inst = λ w. option_map (λ c. Branch c (rs1_of w) (rs2_of w) (imm_b w)) (cond_of (f3_of w));
    }
    ∷ record {
      opcode = 0x03;
      inst = λ w. option_map (λ x. Load x (rd_of w) (rs1_of w) (imm_i w)) (load_of (f3_of w));
    }
    ∷ record {
      opcode = 0x23;
      inst = λ w. option_map (λ x. Store x (rs1_of w) (rs2_of w) (imm_s w)) (store_of (f3_of w));
    }
    ∷ record {
      opcode = 0x13;
      inst = λ w. option_map (λ op. OpImm op (rd_of w) (rs1_of w) (imm_of_op op w))
          (imm_op_of (f3_of w) (f7_of w));
    }
    ∷ record {
      opcode = 0x33;
      inst = λ w. option_map (λ op. Op op (rd_of w) (rs1_of w) (rs2_of w))
          (reg_op_of (f3_of w) (f7_of w));
    }
    ∷ record {
      opcode = 0x0F;
      inst = λ w. if f3_of w == 0 then Some (Fence (fence_fields w))
          else None;
    }
    ∷ record {
      opcode = 0x73;
      inst = λ w. if w == 0x73 then Some Ecall
          else (if w == 0x00100073 then Some Ebreak else None);
    }
    ∷ []

-- the instruction of a word, or None where no row matches
unfoldable pub decoded : ℕ → Option Inst
decoded w = option_and_then (λ r. r.inst w) (find (λ r. r.opcode == opcode_of w) rows)

-- a word of six fields
abbrev pub word_r : ℕ → ℕ → ℕ → ℕ → ℕ → ℕ → ℕ
word_r opcode rd f3 rs1 rs2 f7 =
    opcode + rd * 2 ^ 7 + f3 * 2 ^ 12 + rs1 * 2 ^ 15 + rs2 * 2 ^ 20 + f7 * 2 ^ 25

-- a word with an immediate I
abbrev pub word_i : ℕ → ℕ → ℕ → ℕ → ℕ → ℕ
word_i opcode rd f3 rs1 imm = word_r opcode rd f3 rs1 (bits_of imm 0 5) (bits_of imm 5 7)

-- a word with an immediate S
abbrev pub word_s : ℕ → ℕ → ℕ → ℕ → ℕ → ℕ
word_s opcode f3 rs1 rs2 imm = word_r opcode (bits_of imm 0 5) f3 rs1 rs2 (bits_of imm 5 7)

-- a word with an immediate B
abbrev pub word_b : ℕ → ℕ → ℕ → ℕ → ℕ → ℕ
word_b opcode f3 rs1 rs2 imm =
    word_r opcode (bits_of imm 1 4 * 2 + bits_of imm 11 1) f3 rs1 rs2
    (bits_of imm 12 1 * 2 ^ 6 + bits_of imm 5 6)

-- a word with an immediate U
abbrev pub word_u : ℕ → ℕ → ℕ → ℕ
word_u opcode rd imm = opcode + rd * 2 ^ 7 + bits_of imm 12 20 * 2 ^ 12

-- a word with an immediate J
abbrev pub word_j : ℕ → ℕ → ℕ → ℕ
word_j opcode rd imm =
    opcode + rd * 2 ^ 7 + bits_of imm 12 8 * 2 ^ 12 + bits_of imm 11 1 * 2 ^ 20 +
    bits_of imm 1 10 * 2 ^ 21 + bits_of imm 20 1 * 2 ^ 31

-- a word of an operation with an immediate
abbrev pub word_op_imm : ImmOp → ℕ → ℕ → ℕ → ℕ
word_op_imm op rd rs1 imm =
    word_r 0x13 rd (imm_op_f3 op) rs1 (bits_of imm 0 5) (unwrap_or (imm_op_f7 op) (bits_of imm 5 7))

-- the word of an instruction
unfoldable pub encoded : Inst → ℕ
encoded (Lui rd imm) = word_u 0x37 rd imm
encoded (Auipc rd imm) = word_u 0x17 rd imm
encoded (Jal rd imm) = word_j 0x6F rd imm
encoded (Jalr rd rs1 imm) = word_i 0x67 rd 0 rs1 imm
encoded (Branch cond rs1 rs2 imm) = word_b 0x63 (cond_f3 cond) rs1 rs2 imm
encoded (Load width rd rs1 imm) = word_i 0x03 rd (load_f3 width) rs1 imm
encoded (Store width rs1 rs2 imm) = word_s 0x23 (store_f3 width) rs1 rs2 imm
encoded (OpImm op rd rs1 imm) = word_op_imm op rd rs1 imm
encoded (Op op rd rs1 rs2) = word_r 0x33 rd (reg_op_f3 op) rs1 rs2 (reg_op_f7 op)
encoded (Fence fields) = 0x0F + bits_of fields 0 5 * 2 ^ 7 + bits_of fields 5 17 * 2 ^ 15
encoded Ecall = 0x73
encoded Ebreak = 0x00100073
