-- The words with which statements begin.
-- The rules: docs/COMMANDS.md, "The source".
use Rattle.std.specs.Prelude.{ℕ, List, ◌∷◌, ◌++◌, map, find, Option, codes}
use Rattle.std.specs.Str.{bytes_eq}
use Rattle.mx_isa.specs.declared.inst.Cond.{Cond}
use Rattle.mx_isa.specs.declared.inst.Cond.TheVariants.{Beq, Bne, Blt, Bge, Bltu, Bgeu}
use Rattle.mx_isa.specs.declared.inst.LoadWidth.{LoadWidth}
use Rattle.mx_isa.specs.declared.inst.LoadWidth.TheVariants.{Lb, Lh, Lw, Lbu, Lhu}
use Rattle.mx_isa.specs.declared.inst.StoreWidth.{StoreWidth}
use Rattle.mx_isa.specs.declared.inst.StoreWidth.TheVariants.{Sb, Sh, Sw}
use Rattle.mx_isa.specs.declared.inst.ImmOp.{ImmOp}
use Rattle.mx_isa.specs.declared.inst.ImmOp.TheVariants.{Addi, Slti, Sltiu, Xori, Ori, Andi, Slli, Srli, Srai}
use Rattle.mx_isa.specs.declared.inst.RegOp.{RegOp}
use Rattle.mx_isa.specs.declared.inst.RegOp.TheVariants.{Add, Sub, Sll, Slt, Sltu, Xor, Srl, Sra, Or, And, Mul, Mulh, Mulhsu, Mulhu, Div}
use Rattle.mx_isa.specs.declared.inst.RegOp.TheVariants.{Divu, Rem, Remu}
use Rattle.mx_isa.specs.Table.{conds, loads, stores, imm_ops, reg_ops}
use Rattle.mx_source.specs.declared.mnemonics.Form.{Form}
use Rattle.mx_source.specs.declared.mnemonics.Form.TheVariants.{Lui, Auipc, Jal, Jalr, Branch, Load, Store, OpImm, Op, Fence, Ecall, Ebreak}
use Rattle.mx_source.specs.declared.mnemonics.Keyword.{Keyword}
use Rattle.mx_source.specs.declared.mnemonics.Keyword.TheVariants.{Text, Data, At, Word, Byte, Ascii, Li, La, Inst}

-- of branches
abbrev pub cond_name : Cond → List ℕ
cond_name Beq = codes "beq"
cond_name Bne = codes "bne"
cond_name Blt = codes "blt"
cond_name Bge = codes "bge"
cond_name Bltu = codes "bltu"
cond_name Bgeu = codes "bgeu"

-- of loads
abbrev pub load_name : LoadWidth → List ℕ
load_name Lb = codes "lb"
load_name Lh = codes "lh"
load_name Lw = codes "lw"
load_name Lbu = codes "lbu"
load_name Lhu = codes "lhu"

-- of stores
abbrev pub store_name : StoreWidth → List ℕ
store_name Sb = codes "sb"
store_name Sh = codes "sh"
store_name Sw = codes "sw"

-- of operations on a register and an immediate
abbrev pub imm_op_name : ImmOp → List ℕ
imm_op_name Addi = codes "addi"
imm_op_name Slti = codes "slti"
imm_op_name Sltiu = codes "sltiu"
imm_op_name Xori = codes "xori"
imm_op_name Ori = codes "ori"
imm_op_name Andi = codes "andi"
imm_op_name Slli = codes "slli"
imm_op_name Srli = codes "srli"
imm_op_name Srai = codes "srai"

-- of operations on two registers
abbrev pub reg_op_name : RegOp → List ℕ
reg_op_name Add = codes "add"
reg_op_name Sub = codes "sub"
reg_op_name Sll = codes "sll"
reg_op_name Slt = codes "slt"
reg_op_name Sltu = codes "sltu"
reg_op_name Xor = codes "xor"
reg_op_name Srl = codes "srl"
reg_op_name Sra = codes "sra"
reg_op_name Or = codes "or"
reg_op_name And = codes "and"
reg_op_name Mul = codes "mul"
reg_op_name Mulh = codes "mulh"
reg_op_name Mulhsu = codes "mulhsu"
reg_op_name Mulhu = codes "mulhu"
reg_op_name Div = codes "div"
reg_op_name Divu = codes "divu"
reg_op_name Rem = codes "rem"
reg_op_name Remu = codes "remu"

-- of instructions
abbrev pub form_name : Form → List ℕ
form_name Lui = codes "lui"
form_name Auipc = codes "auipc"
form_name Jal = codes "jal"
form_name Jalr = codes "jalr"
form_name (Branch cond) = cond_name cond
form_name (Load width) = load_name width
form_name (Store width) = store_name width
form_name (OpImm op) = imm_op_name op
form_name (Op op) = reg_op_name op
form_name Fence = codes "fence"
form_name Ecall = codes "ecall"
form_name Ebreak = codes "ebreak"

-- of all statements
abbrev pub keyword_name : Keyword → List ℕ
keyword_name Text = codes ".text"
keyword_name Data = codes ".data"
keyword_name At = codes ".at"
keyword_name Word = codes ".word"
keyword_name Byte = codes ".byte"
keyword_name Ascii = codes ".ascii"
keyword_name Li = codes "li"
keyword_name La = codes "la"
keyword_name (Inst form) = form_name form

-- the instructions
abbrev pub forms : List Form
forms =
    Lui ∷ Auipc ∷ Jal ∷ Jalr ∷ Fence ∷ Ecall ∷ Ebreak
    ∷ (map Branch conds ++ map Load loads ++ map Store stores ++ map OpImm imm_ops
    ++ map Op reg_ops)

-- all statements
abbrev pub keywords : List Keyword
keywords = Text ∷ Data ∷ At ∷ Word ∷ Byte ∷ Ascii ∷ Li ∷ La ∷ map Inst forms

-- the statement that a word begins, if it is listed
unfoldable pub keyword_of : List ℕ → Option Keyword
keyword_of word = find (λ k. bytes_eq (keyword_name k) word) keywords
