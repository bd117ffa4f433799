-- The text of an instruction: the statement that the assembler takes for it, with registers as x0 to x31 and numbers in decimal.
-- The rules: docs/COMMANDS.md, "The trace".
use Rattle.std.specs.Prelude.{ℕ, ◌/◌, List, [], ◌∷◌, ◌++◌, codes, decimal}
use Rattle.std.specs.Fmt.{signed_decimal}
use Rattle.std.specs.Int.{cast_signed, w32}
use Rattle.std.specs.List.{concat}
use Rattle.mx_isa.specs.declared.inst.Inst.{Inst}
use Rattle.mx_isa.specs.declared.inst.Inst.TheVariants.{Lui, Auipc, Jal, Jalr, Branch, Load, Store, OpImm, Op, Fence, Ecall, Ebreak}
use Rattle.mx_source.specs.declared.mnemonics.Form.{Form}
use Rattle.mx_source.specs.declared.mnemonics.Form.TheVariants as forms
use Rattle.mx_source.specs.Mnemonics.{form_name}

-- 32 bits as a signed number
abbrev pub signed_text : ℕ → List ℕ
signed_text bits = signed_decimal (cast_signed w32 bits)

-- `rd, n`
unfoldable pub upper_text : Form → ℕ → ℕ → List ℕ
upper_text form rd n =
    concat (form_name form ∷ codes " x" ∷ decimal rd ∷ codes ", " ∷ decimal n ∷ [])

-- `rd, T`
unfoldable pub jump_text : Form → ℕ → ℕ → List ℕ
jump_text form rd offset =
    concat (form_name form ∷ codes " x" ∷ decimal rd ∷ codes ", " ∷ signed_text offset ∷ [])

-- `rs1, rs2, T`, and `rd, rs1, n`
unfoldable pub pair_text : Form → ℕ → ℕ → ℕ → List ℕ
pair_text form first second n =
    concat (form_name form ∷ codes " x" ∷ decimal first ∷ codes ", x" ∷ decimal second ∷ codes ", "
    ∷ signed_text n ∷ [])

-- `rd, n(rs1)`, and `rs2, n(rs1)`
unfoldable pub indexed_text : Form → ℕ → ℕ → ℕ → List ℕ
indexed_text form register n base =
    concat (form_name form ∷ codes " x" ∷ decimal register ∷ codes ", " ∷ signed_text n ∷ codes "(x"
    ∷ decimal base ∷ codes ")" ∷ [])

-- `rd, rs1, rs2`
unfoldable pub register_text : Form → ℕ → ℕ → ℕ → List ℕ
register_text form rd rs1 rs2 =
    concat (form_name form ∷ codes " x" ∷ decimal rd ∷ codes ", x" ∷ decimal rs1 ∷ codes ", x"
    ∷ decimal rs2 ∷ [])

-- `fence n`
unfoldable pub fence_text : ℕ → List ℕ
fence_text n = concat (form_name forms.Fence ∷ codes " " ∷ decimal n ∷ [])

-- the text of an instruction
unfoldable pub inst_text : Inst → List ℕ
inst_text (Lui rd imm) = upper_text forms.Lui rd (imm / 4096)
inst_text (Auipc rd imm) = upper_text forms.Auipc rd (imm / 4096)
inst_text (Jal rd imm) = jump_text forms.Jal rd imm
inst_text (Jalr rd rs1 imm) = indexed_text forms.Jalr rd imm rs1
inst_text (Branch cond rs1 rs2 imm) = pair_text (forms.Branch cond) rs1 rs2 imm
inst_text (Load width rd rs1 imm) = indexed_text (forms.Load width) rd imm rs1
inst_text (Store width rs1 rs2 imm) = indexed_text (forms.Store width) rs2 imm rs1
inst_text (OpImm op rd rs1 imm) = pair_text (forms.OpImm op) rd rs1 imm
inst_text (Op op rd rs1 rs2) = register_text (forms.Op op) rd rs1 rs2
inst_text (Fence fields) = fence_text fields
inst_text Ecall = form_name forms.Ecall
inst_text Ebreak = form_name forms.Ebreak

-- the source whose second line is that text
unfoldable pub text_source : Inst → List ℕ
text_source i = codes ".text 0x80000000" ++ 10 ∷ inst_text i
