-- An encoded instruction decodes to itself.
use Rattle.std.proofs.Common.{◌≡◌, ℕ, ◌^◌, ◌%◌, ◌<◌, Some, refl, arith, lit<}
use Rattle.mx_isa.specs.declared.inst.Inst.{Inst}
use Rattle.mx_isa.specs.declared.inst.Inst.TheVariants.{Lui, Auipc, Jal, Jalr, Branch, Load, Store, OpImm, Op, Fence, Ecall, Ebreak}
use Rattle.mx_isa.specs.declared.inst.Cond.{Cond}
use Rattle.mx_isa.specs.declared.inst.Cond.TheVariants.{Beq, Bne, Blt, Bge, Bltu, Bgeu}
use Rattle.mx_isa.specs.declared.inst.LoadWidth.{LoadWidth}
use Rattle.mx_isa.specs.declared.inst.LoadWidth.TheVariants.{Lb, Lh, Lw, Lbu, Lhu}
use Rattle.mx_isa.specs.declared.inst.StoreWidth.{StoreWidth}
use Rattle.mx_isa.specs.declared.inst.StoreWidth.TheVariants.{Sb, Sh, Sw}
use Rattle.mx_isa.specs.declared.inst.ImmOp.TheVariants.{Addi, Slti, Sltiu, Xori, Ori, Andi, Slli, Srli, Srai}
use Rattle.mx_isa.specs.declared.inst.RegOp.{RegOp}
use Rattle.mx_isa.specs.declared.inst.RegOp.TheVariants.{Add, Sub, Sll, Slt, Sltu, Xor, Srl, Sra, Or, And, Mul, Mulh, Mulhsu, Mulhu, Div}
use Rattle.mx_isa.specs.declared.inst.RegOp.TheVariants.{Divu, Rem, Remu}
use Rattle.mx_isa.specs.Fields.{opcode_of, rd_of, f3_of, rs1_of, rs2_of, f7_of, imm_i, imm_s, imm_b, imm_u, imm_j, fence_fields}
use Rattle.mx_isa.specs.Table.{decoded, encoded, cond_f3, load_f3, store_f3, reg_op_f3, reg_op_f7, word_r, word_i, word_s, word_b, word_u}
use Rattle.mx_isa.specs.Table.{word_j}
use Rattle.mx_isa.specs.Ranges.{IsValid, IsExtended, IsOffset}
use Rattle.mx_isa.proofs.Extension.{extended-low_12, extended-low_13, extended-low_21}

-- what a word decodes to, by its fields
at_lui : (w rd imm : ℕ) → opcode_of w ≡ 0x37 → rd_of w ≡ rd → imm_u w ≡ imm → decoded w ≡ Some (Lui rd imm)
unfolding decoded
at_lui w rd imm o d i = rw (o, d, i) refl

at_auipc : (w rd imm : ℕ) → opcode_of w ≡ 0x17 → rd_of w ≡ rd → imm_u w ≡ imm → decoded w ≡ Some (Auipc rd imm)
unfolding decoded
at_auipc w rd imm o d i = rw (o, d, i) refl

at_jal : (w rd imm : ℕ) → opcode_of w ≡ 0x6F → rd_of w ≡ rd → imm_j w ≡ imm → decoded w ≡ Some (Jal rd imm)
unfolding decoded
at_jal w rd imm o d i = rw (o, d, i) refl

at_jalr : (w rd rs1 imm : ℕ) → opcode_of w ≡ 0x67 → f3_of w ≡ 0 → rd_of w ≡ rd → rs1_of w ≡ rs1 → imm_i w ≡ imm
    → decoded w ≡ Some (Jalr rd rs1 imm)
unfolding decoded
at_jalr w rd rs1 imm o f d a i = rw (o, f, d, a, i) refl

at_branch : (c : Cond) (w rs1 rs2 imm : ℕ) → opcode_of w ≡ 0x63 → f3_of w ≡ cond_f3 c → rs1_of w ≡ rs1 → rs2_of w ≡ rs2 → imm_b w ≡ imm
    → decoded w ≡ Some (Branch c rs1 rs2 imm)
unfolding decoded
at_branch Beq w rs1 rs2 imm o f a b i = rw (o, f, a, b, i) refl
at_branch Bne w rs1 rs2 imm o f a b i = rw (o, f, a, b, i) refl
at_branch Blt w rs1 rs2 imm o f a b i = rw (o, f, a, b, i) refl
at_branch Bge w rs1 rs2 imm o f a b i = rw (o, f, a, b, i) refl
at_branch Bltu w rs1 rs2 imm o f a b i = rw (o, f, a, b, i) refl
at_branch Bgeu w rs1 rs2 imm o f a b i = rw (o, f, a, b, i) refl

at_load : (x : LoadWidth) (w rd rs1 imm : ℕ) → opcode_of w ≡ 0x03 → f3_of w ≡ load_f3 x → rd_of w ≡ rd → rs1_of w ≡ rs1 → imm_i w ≡ imm
    → decoded w ≡ Some (Load x rd rs1 imm)
unfolding decoded
at_load Lb w rd rs1 imm o f d a i = rw (o, f, d, a, i) refl
at_load Lh w rd rs1 imm o f d a i = rw (o, f, d, a, i) refl
at_load Lw w rd rs1 imm o f d a i = rw (o, f, d, a, i) refl
at_load Lbu w rd rs1 imm o f d a i = rw (o, f, d, a, i) refl
at_load Lhu w rd rs1 imm o f d a i = rw (o, f, d, a, i) refl

at_store : (x : StoreWidth) (w rs1 rs2 imm : ℕ) → opcode_of w ≡ 0x23 → f3_of w ≡ store_f3 x → rs1_of w ≡ rs1 → rs2_of w ≡ rs2
    → imm_s w ≡ imm → decoded w ≡ Some (Store x rs1 rs2 imm)
unfolding decoded
at_store Sb w rs1 rs2 imm o f a b i = rw (o, f, a, b, i) refl
at_store Sh w rs1 rs2 imm o f a b i = rw (o, f, a, b, i) refl
at_store Sw w rs1 rs2 imm o f a b i = rw (o, f, a, b, i) refl

at_addi : (w rd rs1 imm : ℕ) → opcode_of w ≡ 0x13 → f3_of w ≡ 0 → rd_of w ≡ rd → rs1_of w ≡ rs1 → imm_i w ≡ imm
    → decoded w ≡ Some (OpImm Addi rd rs1 imm)
unfolding decoded
at_addi w rd rs1 imm o f d a i = rw (o, f, d, a, i) refl

at_slti : (w rd rs1 imm : ℕ) → opcode_of w ≡ 0x13 → f3_of w ≡ 2 → rd_of w ≡ rd → rs1_of w ≡ rs1 → imm_i w ≡ imm
    → decoded w ≡ Some (OpImm Slti rd rs1 imm)
unfolding decoded
at_slti w rd rs1 imm o f d a i = rw (o, f, d, a, i) refl

at_sltiu : (w rd rs1 imm : ℕ) → opcode_of w ≡ 0x13 → f3_of w ≡ 3 → rd_of w ≡ rd → rs1_of w ≡ rs1 → imm_i w ≡ imm
    → decoded w ≡ Some (OpImm Sltiu rd rs1 imm)
unfolding decoded
at_sltiu w rd rs1 imm o f d a i = rw (o, f, d, a, i) refl

at_xori : (w rd rs1 imm : ℕ) → opcode_of w ≡ 0x13 → f3_of w ≡ 4 → rd_of w ≡ rd → rs1_of w ≡ rs1 → imm_i w ≡ imm
    → decoded w ≡ Some (OpImm Xori rd rs1 imm)
unfolding decoded
at_xori w rd rs1 imm o f d a i = rw (o, f, d, a, i) refl

at_ori : (w rd rs1 imm : ℕ) → opcode_of w ≡ 0x13 → f3_of w ≡ 6 → rd_of w ≡ rd → rs1_of w ≡ rs1 → imm_i w ≡ imm
    → decoded w ≡ Some (OpImm Ori rd rs1 imm)
unfolding decoded
at_ori w rd rs1 imm o f d a i = rw (o, f, d, a, i) refl

at_andi : (w rd rs1 imm : ℕ) → opcode_of w ≡ 0x13 → f3_of w ≡ 7 → rd_of w ≡ rd → rs1_of w ≡ rs1 → imm_i w ≡ imm
    → decoded w ≡ Some (OpImm Andi rd rs1 imm)
unfolding decoded
at_andi w rd rs1 imm o f d a i = rw (o, f, d, a, i) refl

at_slli : (w rd rs1 imm : ℕ) → opcode_of w ≡ 0x13 → f3_of w ≡ 1 → f7_of w ≡ 0 → rd_of w ≡ rd → rs1_of w ≡ rs1 → rs2_of w ≡ imm
    → decoded w ≡ Some (OpImm Slli rd rs1 imm)
unfolding decoded
at_slli w rd rs1 imm o f g d a i = rw (o, f, g, d, a, i) refl

at_srli : (w rd rs1 imm : ℕ) → opcode_of w ≡ 0x13 → f3_of w ≡ 5 → f7_of w ≡ 0 → rd_of w ≡ rd → rs1_of w ≡ rs1 → rs2_of w ≡ imm
    → decoded w ≡ Some (OpImm Srli rd rs1 imm)
unfolding decoded
at_srli w rd rs1 imm o f g d a i = rw (o, f, g, d, a, i) refl

at_srai : (w rd rs1 imm : ℕ) → opcode_of w ≡ 0x13 → f3_of w ≡ 5 → f7_of w ≡ 32 → rd_of w ≡ rd → rs1_of w ≡ rs1 → rs2_of w ≡ imm
    → decoded w ≡ Some (OpImm Srai rd rs1 imm)
unfolding decoded
at_srai w rd rs1 imm o f g d a i = rw (o, f, g, d, a, i) refl

at_op : (x : RegOp) (w rd rs1 rs2 : ℕ) → opcode_of w ≡ 0x33 → f3_of w ≡ reg_op_f3 x → f7_of w ≡ reg_op_f7 x → rd_of w ≡ rd → rs1_of w ≡ rs1
    → rs2_of w ≡ rs2 → decoded w ≡ Some (Op x rd rs1 rs2)
unfolding decoded
at_op Add w rd rs1 rs2 o f g d a b = rw (o, f, g, d, a, b) refl
at_op Sub w rd rs1 rs2 o f g d a b = rw (o, f, g, d, a, b) refl
at_op Sll w rd rs1 rs2 o f g d a b = rw (o, f, g, d, a, b) refl
at_op Slt w rd rs1 rs2 o f g d a b = rw (o, f, g, d, a, b) refl
at_op Sltu w rd rs1 rs2 o f g d a b = rw (o, f, g, d, a, b) refl
at_op Xor w rd rs1 rs2 o f g d a b = rw (o, f, g, d, a, b) refl
at_op Srl w rd rs1 rs2 o f g d a b = rw (o, f, g, d, a, b) refl
at_op Sra w rd rs1 rs2 o f g d a b = rw (o, f, g, d, a, b) refl
at_op Or w rd rs1 rs2 o f g d a b = rw (o, f, g, d, a, b) refl
at_op And w rd rs1 rs2 o f g d a b = rw (o, f, g, d, a, b) refl
at_op Mul w rd rs1 rs2 o f g d a b = rw (o, f, g, d, a, b) refl
at_op Mulh w rd rs1 rs2 o f g d a b = rw (o, f, g, d, a, b) refl
at_op Mulhsu w rd rs1 rs2 o f g d a b = rw (o, f, g, d, a, b) refl
at_op Mulhu w rd rs1 rs2 o f g d a b = rw (o, f, g, d, a, b) refl
at_op Div w rd rs1 rs2 o f g d a b = rw (o, f, g, d, a, b) refl
at_op Divu w rd rs1 rs2 o f g d a b = rw (o, f, g, d, a, b) refl
at_op Rem w rd rs1 rs2 o f g d a b = rw (o, f, g, d, a, b) refl
at_op Remu w rd rs1 rs2 o f g d a b = rw (o, f, g, d, a, b) refl

at_fence : (w fields : ℕ) → opcode_of w ≡ 0x0F → f3_of w ≡ 0 → fence_fields w ≡ fields → decoded w ≡ Some (Fence fields)
unfolding decoded
at_fence w fields o f i = rw (o, f, i) refl

-- the numbers of the operations are those of 3 and 7 bits
cond_f3-lt : (c : Cond) → cond_f3 c < 8
cond_f3-lt Beq = omega arith
cond_f3-lt Bne = omega arith
cond_f3-lt Blt = omega arith
cond_f3-lt Bge = omega arith
cond_f3-lt Bltu = omega arith
cond_f3-lt Bgeu = omega arith

load_f3-lt : (x : LoadWidth) → load_f3 x < 8
load_f3-lt Lb = omega arith
load_f3-lt Lh = omega arith
load_f3-lt Lw = omega arith
load_f3-lt Lbu = omega arith
load_f3-lt Lhu = omega arith

store_f3-lt : (x : StoreWidth) → store_f3 x < 8
store_f3-lt Sb = omega arith
store_f3-lt Sh = omega arith
store_f3-lt Sw = omega arith

reg_op_f3-lt : (x : RegOp) → reg_op_f3 x < 8
reg_op_f3-lt Add = omega arith
reg_op_f3-lt Sub = omega arith
reg_op_f3-lt Sll = omega arith
reg_op_f3-lt Slt = omega arith
reg_op_f3-lt Sltu = omega arith
reg_op_f3-lt Xor = omega arith
reg_op_f3-lt Srl = omega arith
reg_op_f3-lt Sra = omega arith
reg_op_f3-lt Or = omega arith
reg_op_f3-lt And = omega arith
reg_op_f3-lt Mul = omega arith
reg_op_f3-lt Mulh = omega arith
reg_op_f3-lt Mulhsu = omega arith
reg_op_f3-lt Mulhu = omega arith
reg_op_f3-lt Div = omega arith
reg_op_f3-lt Divu = omega arith
reg_op_f3-lt Rem = omega arith
reg_op_f3-lt Remu = omega arith

reg_op_f7-lt : (x : RegOp) → reg_op_f7 x < 128
reg_op_f7-lt Add = omega arith
reg_op_f7-lt Sub = omega arith
reg_op_f7-lt Sll = omega arith
reg_op_f7-lt Slt = omega arith
reg_op_f7-lt Sltu = omega arith
reg_op_f7-lt Xor = omega arith
reg_op_f7-lt Srl = omega arith
reg_op_f7-lt Sra = omega arith
reg_op_f7-lt Or = omega arith
reg_op_f7-lt And = omega arith
reg_op_f7-lt Mul = omega arith
reg_op_f7-lt Mulh = omega arith
reg_op_f7-lt Mulhsu = omega arith
reg_op_f7-lt Mulhu = omega arith
reg_op_f7-lt Div = omega arith
reg_op_f7-lt Divu = omega arith
reg_op_f7-lt Rem = omega arith
reg_op_f7-lt Remu = omega arith

-- the immediates of packed words
imm_i-word_i : (o rd f rs1 imm : ℕ) → o < 128 → rd < 32 → f < 8 → rs1 < 32 → IsExtended 12 imm → imm_i (word_i o rd f rs1 imm) ≡ imm
unfolding imm_i
imm_i-word_i o rd f rs1 imm ho hd hf ha v = extended-low_12 imm _ v (omega arith)

imm_s-word_s : (o f rs1 rs2 imm : ℕ) → o < 128 → f < 8 → rs1 < 32 → rs2 < 32 → IsExtended 12 imm → imm_s (word_s o f rs1 rs2 imm) ≡ imm
unfolding imm_s
imm_s-word_s o f rs1 rs2 imm ho hf ha hb v = extended-low_12 imm _ v (omega arith)

imm_b-word_b : (o f rs1 rs2 imm : ℕ) → o < 128 → f < 8 → rs1 < 32 → rs2 < 32 → IsOffset 13 imm → imm_b (word_b o f rs1 rs2 imm) ≡ imm
unfolding imm_b
imm_b-word_b o f rs1 rs2 imm ho hf ha hb v = let e : imm % 2 ≡ 0 = v.1 in extended-low_13 imm _ v.0 (omega arith)

imm_j-word_j : (o rd imm : ℕ) → o < 128 → rd < 32 → IsOffset 21 imm → imm_j (word_j o rd imm) ≡ imm
unfolding imm_j
imm_j-word_j o rd imm ho hd v = let e : imm % 2 ≡ 0 = v.1 in extended-low_21 imm _ v.0 (omega arith)

imm_u-word_u : (o rd imm : ℕ) → o < 128 → rd < 32 → imm < 2 ^ 32 → imm % 2 ^ 12 ≡ 0 → imm_u (word_u o rd imm) ≡ imm
unfolding imm_u
imm_u-word_u o rd imm ho hd h e = omega arith

-- a valid instruction is what its word decodes to
pub decoded-encoded : (i : Inst) → IsValid i → decoded (encoded i) ≡ Some i
unfolding decoded encoded IsValid fence_fields
decoded-encoded (Lui rd imm) v = let d : rd < 32 = v.0 in let h : imm < 2 ^ 32 = v.1.0 in
    at_lui (word_u 0x37 rd imm) rd imm (omega arith) (omega arith) (imm_u-word_u 0x37 rd imm (lit< tt) d h v.1.1)
decoded-encoded (Auipc rd imm) v = let d : rd < 32 = v.0 in let h : imm < 2 ^ 32 = v.1.0 in
    at_auipc (word_u 0x17 rd imm) rd imm (omega arith) (omega arith) (imm_u-word_u 0x17 rd imm (lit< tt) d h v.1.1)
decoded-encoded (Jal rd imm) v = let d : rd < 32 = v.0 in at_jal (word_j 0x6F rd imm) rd imm (omega arith) (omega arith)
    (imm_j-word_j 0x6F rd imm (lit< tt) d v.1)
decoded-encoded (Jalr rd rs1 imm) v = let d : rd < 32 = v.0 in let a : rs1 < 32 = v.1 in
    at_jalr (word_i 0x67 rd 0 rs1 imm) rd rs1 imm (omega arith) (omega arith) (omega arith) (omega arith)
    (imm_i-word_i 0x67 rd 0 rs1 imm (lit< tt) d (lit< tt) a v.2)
decoded-encoded (Branch c rs1 rs2 imm) v = let f = cond_f3-lt c in let a : rs1 < 32 = v.0 in let b : rs2 < 32 = v.1 in
    at_branch c (word_b 0x63 (cond_f3 c) rs1 rs2 imm) rs1 rs2 imm (omega arith) (omega arith) (omega arith) (omega arith)
    (imm_b-word_b 0x63 (cond_f3 c) rs1 rs2 imm (lit< tt) f a b v.2)
decoded-encoded (Load x rd rs1 imm) v = let f = load_f3-lt x in let d : rd < 32 = v.0 in let a : rs1 < 32 = v.1 in
    at_load x (word_i 0x03 rd (load_f3 x) rs1 imm) rd rs1 imm (omega arith) (omega arith) (omega arith) (omega arith)
    (imm_i-word_i 0x03 rd (load_f3 x) rs1 imm (lit< tt) d f a v.2)
decoded-encoded (Store x rs1 rs2 imm) v = let f = store_f3-lt x in let a : rs1 < 32 = v.0 in let b : rs2 < 32 = v.1 in
    at_store x (word_s 0x23 (store_f3 x) rs1 rs2 imm) rs1 rs2 imm (omega arith) (omega arith) (omega arith) (omega arith)
    (imm_s-word_s 0x23 (store_f3 x) rs1 rs2 imm (lit< tt) f a b v.2)
decoded-encoded (OpImm Addi rd rs1 imm) v = let d : rd < 32 = v.0 in let a : rs1 < 32 = v.1 in
    at_addi (word_i 0x13 rd 0 rs1 imm) rd rs1 imm (omega arith) (omega arith) (omega arith) (omega arith)
    (imm_i-word_i 0x13 rd 0 rs1 imm (lit< tt) d (lit< tt) a v.2)
decoded-encoded (OpImm Slti rd rs1 imm) v = let d : rd < 32 = v.0 in let a : rs1 < 32 = v.1 in
    at_slti (word_i 0x13 rd 2 rs1 imm) rd rs1 imm (omega arith) (omega arith) (omega arith) (omega arith)
    (imm_i-word_i 0x13 rd 2 rs1 imm (lit< tt) d (lit< tt) a v.2)
decoded-encoded (OpImm Sltiu rd rs1 imm) v = let d : rd < 32 = v.0 in let a : rs1 < 32 = v.1 in
    at_sltiu (word_i 0x13 rd 3 rs1 imm) rd rs1 imm (omega arith) (omega arith) (omega arith) (omega arith)
    (imm_i-word_i 0x13 rd 3 rs1 imm (lit< tt) d (lit< tt) a v.2)
decoded-encoded (OpImm Xori rd rs1 imm) v = let d : rd < 32 = v.0 in let a : rs1 < 32 = v.1 in
    at_xori (word_i 0x13 rd 4 rs1 imm) rd rs1 imm (omega arith) (omega arith) (omega arith) (omega arith)
    (imm_i-word_i 0x13 rd 4 rs1 imm (lit< tt) d (lit< tt) a v.2)
decoded-encoded (OpImm Ori rd rs1 imm) v = let d : rd < 32 = v.0 in let a : rs1 < 32 = v.1 in
    at_ori (word_i 0x13 rd 6 rs1 imm) rd rs1 imm (omega arith) (omega arith) (omega arith) (omega arith)
    (imm_i-word_i 0x13 rd 6 rs1 imm (lit< tt) d (lit< tt) a v.2)
decoded-encoded (OpImm Andi rd rs1 imm) v = let d : rd < 32 = v.0 in let a : rs1 < 32 = v.1 in
    at_andi (word_i 0x13 rd 7 rs1 imm) rd rs1 imm (omega arith) (omega arith) (omega arith) (omega arith)
    (imm_i-word_i 0x13 rd 7 rs1 imm (lit< tt) d (lit< tt) a v.2)
decoded-encoded (OpImm Slli rd rs1 imm) v = let d : rd < 32 = v.0 in let a : rs1 < 32 = v.1 in let b : imm < 32 = v.2 in
    at_slli (encoded (OpImm Slli rd rs1 imm)) rd rs1 imm (omega arith) (omega arith) (omega arith) (omega arith) (omega arith) (omega arith)
decoded-encoded (OpImm Srli rd rs1 imm) v = let d : rd < 32 = v.0 in let a : rs1 < 32 = v.1 in let b : imm < 32 = v.2 in
    at_srli (encoded (OpImm Srli rd rs1 imm)) rd rs1 imm (omega arith) (omega arith) (omega arith) (omega arith) (omega arith) (omega arith)
decoded-encoded (OpImm Srai rd rs1 imm) v = let d : rd < 32 = v.0 in let a : rs1 < 32 = v.1 in let b : imm < 32 = v.2 in
    at_srai (encoded (OpImm Srai rd rs1 imm)) rd rs1 imm (omega arith) (omega arith) (omega arith) (omega arith) (omega arith) (omega arith)
decoded-encoded (Op x rd rs1 rs2) v = let f = reg_op_f3-lt x in let g = reg_op_f7-lt x in let d : rd < 32 = v.0 in let a : rs1 < 32 = v.1 in
    let b : rs2 < 32 = v.2 in at_op x (word_r 0x33 rd (reg_op_f3 x) rs1 rs2 (reg_op_f7 x)) rd rs1 rs2 (omega arith) (omega arith)
    (omega arith) (omega arith) (omega arith) (omega arith)
decoded-encoded (Fence fields) v = let h : fields < 2 ^ 22 = v in
    at_fence (encoded (Fence fields)) fields (omega arith) (omega arith) (omega arith)
decoded-encoded Ecall v = refl
decoded-encoded Ebreak v = refl
