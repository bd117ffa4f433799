-- The words of instructions: each is one that the assembler lists for it.
use Rattle.std.proofs.Common.{◌≡◌, ℕ, Bool, true, ◌&&◌, List, length, refl, nat_lt, Some}
use Rattle.std.specs.List.{list_all}
use Rattle.mx_isa.specs.declared.inst.Cond.TheVariants.{Beq, Bne, Blt, Bge, Bltu, Bgeu}
use Rattle.mx_isa.specs.declared.inst.LoadWidth.TheVariants.{Lb, Lh, Lw, Lbu, Lhu}
use Rattle.mx_isa.specs.declared.inst.StoreWidth.TheVariants.{Sb, Sh, Sw}
use Rattle.mx_isa.specs.declared.inst.ImmOp.TheVariants.{Addi, Slti, Sltiu, Xori, Ori, Andi, Slli, Srli, Srai}
use Rattle.mx_isa.specs.declared.inst.RegOp.TheVariants.{Add, Sub, Sll, Slt, Sltu, Xor, Srl, Sra, Or, And, Mul, Mulh, Mulhsu, Mulhu, Div}
use Rattle.mx_isa.specs.declared.inst.RegOp.TheVariants.{Divu, Rem, Remu}
use Rattle.mx_source.specs.declared.mnemonics.Form.{Form}
use Rattle.mx_source.specs.declared.mnemonics.Form.TheVariants.{Lui, Auipc, Jal, Jalr, Branch, Load, Store, OpImm, Op, Fence, Ecall, Ebreak}
use Rattle.mx_source.specs.declared.mnemonics.Keyword.TheVariants.{Inst}
use Rattle.mx_source.specs.Characters.{is_in_name, is_in_word}
use Rattle.mx_source.specs.Operands.{is_name}
use Rattle.mx_source.specs.Mnemonics.{form_name, keyword_of}
use Rattle.mx_source.specs.Lines.{is_word}
use Rattle.mx_text_laws.proofs.Solid.{is_solid}

-- a word of letters
abbrev pub is_mnemonic : List ℕ → Bool
is_mnemonic name = nat_lt 0 (length name) && list_all is_solid name && list_all is_in_name name && list_all is_in_word name && is_word name

pub form_mnemonic : (form : Form) → is_mnemonic (form_name form) ≡ true
unfolding is_word is_name
form_mnemonic Lui = refl
form_mnemonic Auipc = refl
form_mnemonic Jal = refl
form_mnemonic Jalr = refl
form_mnemonic Fence = refl
form_mnemonic Ecall = refl
form_mnemonic Ebreak = refl
form_mnemonic (Branch Beq) = refl
form_mnemonic (Branch Bne) = refl
form_mnemonic (Branch Blt) = refl
form_mnemonic (Branch Bge) = refl
form_mnemonic (Branch Bltu) = refl
form_mnemonic (Branch Bgeu) = refl
form_mnemonic (Load Lb) = refl
form_mnemonic (Load Lh) = refl
form_mnemonic (Load Lw) = refl
form_mnemonic (Load Lbu) = refl
form_mnemonic (Load Lhu) = refl
form_mnemonic (Store Sb) = refl
form_mnemonic (Store Sh) = refl
form_mnemonic (Store Sw) = refl
form_mnemonic (OpImm Addi) = refl
form_mnemonic (OpImm Slti) = refl
form_mnemonic (OpImm Sltiu) = refl
form_mnemonic (OpImm Xori) = refl
form_mnemonic (OpImm Ori) = refl
form_mnemonic (OpImm Andi) = refl
form_mnemonic (OpImm Slli) = refl
form_mnemonic (OpImm Srli) = refl
form_mnemonic (OpImm Srai) = refl
form_mnemonic (Op Add) = refl
form_mnemonic (Op Sub) = refl
form_mnemonic (Op Sll) = refl
form_mnemonic (Op Slt) = refl
form_mnemonic (Op Sltu) = refl
form_mnemonic (Op Xor) = refl
form_mnemonic (Op Srl) = refl
form_mnemonic (Op Sra) = refl
form_mnemonic (Op Or) = refl
form_mnemonic (Op And) = refl
form_mnemonic (Op Mul) = refl
form_mnemonic (Op Mulh) = refl
form_mnemonic (Op Mulhsu) = refl
form_mnemonic (Op Mulhu) = refl
form_mnemonic (Op Div) = refl
form_mnemonic (Op Divu) = refl
form_mnemonic (Op Rem) = refl
form_mnemonic (Op Remu) = refl

pub form_keyword : (form : Form) → keyword_of (form_name form) ≡ Some (Inst form)
unfolding keyword_of
form_keyword Lui = refl
form_keyword Auipc = refl
form_keyword Jal = refl
form_keyword Jalr = refl
form_keyword Fence = refl
form_keyword Ecall = refl
form_keyword Ebreak = refl
form_keyword (Branch Beq) = refl
form_keyword (Branch Bne) = refl
form_keyword (Branch Blt) = refl
form_keyword (Branch Bge) = refl
form_keyword (Branch Bltu) = refl
form_keyword (Branch Bgeu) = refl
form_keyword (Load Lb) = refl
form_keyword (Load Lh) = refl
form_keyword (Load Lw) = refl
form_keyword (Load Lbu) = refl
form_keyword (Load Lhu) = refl
form_keyword (Store Sb) = refl
form_keyword (Store Sh) = refl
form_keyword (Store Sw) = refl
form_keyword (OpImm Addi) = refl
form_keyword (OpImm Slti) = refl
form_keyword (OpImm Sltiu) = refl
form_keyword (OpImm Xori) = refl
form_keyword (OpImm Ori) = refl
form_keyword (OpImm Andi) = refl
form_keyword (OpImm Slli) = refl
form_keyword (OpImm Srli) = refl
form_keyword (OpImm Srai) = refl
form_keyword (Op Add) = refl
form_keyword (Op Sub) = refl
form_keyword (Op Sll) = refl
form_keyword (Op Slt) = refl
form_keyword (Op Sltu) = refl
form_keyword (Op Xor) = refl
form_keyword (Op Srl) = refl
form_keyword (Op Sra) = refl
form_keyword (Op Or) = refl
form_keyword (Op And) = refl
form_keyword (Op Mul) = refl
form_keyword (Op Mulh) = refl
form_keyword (Op Mulhsu) = refl
form_keyword (Op Mulhu) = refl
form_keyword (Op Div) = refl
form_keyword (Op Divu) = refl
form_keyword (Op Rem) = refl
form_keyword (Op Remu) = refl
