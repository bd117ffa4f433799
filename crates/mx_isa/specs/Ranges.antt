-- The ranges of an instruction's fields.
use Rattle.std.specs.Prelude.{◌≡◌, ℕ, ◌-◌, ◌%◌, ◌^◌, ◌<◌, ◌≤◌, ◌⊎◌}
use Rattle.mx_isa.specs.declared.inst.Inst.{Inst}
use Rattle.mx_isa.specs.declared.inst.Inst.TheVariants.{Lui, Auipc, Jal, Jalr, Branch, Load, Store, OpImm, Op, Fence, Ecall, Ebreak}
use Rattle.mx_isa.specs.declared.inst.ImmOp.{ImmOp}
use Rattle.mx_isa.specs.declared.inst.ImmOp.TheVariants.{Slli, Srli, Srai}

-- a number of `count` bits, its sign extended to 32
abbrev pub IsExtended : ℕ → ℕ → Type 0
IsExtended count imm = (imm < 2 ^ (count - 1)) ⊎ ((2 ^ 32 - 2 ^ (count - 1) ≤ imm) × (imm < 2 ^ 32))

-- an offset of a jump or branch: extended and even
abbrev pub IsOffset : ℕ → ℕ → Type 0
IsOffset count imm = IsExtended count imm × (imm % 2 ≡ 0)

-- an upper immediate: the low 12 bits are zero
abbrev pub IsUpper : ℕ → Type 0
IsUpper imm = (imm < 2 ^ 32) × (imm % 2 ^ 12 ≡ 0)

-- a shift's immediate is its amount
abbrev pub IsOperand : ImmOp → ℕ → Type 0
IsOperand Slli imm = imm < 32
IsOperand Srli imm = imm < 32
IsOperand Srai imm = imm < 32
IsOperand _ imm = IsExtended 12 imm

-- registers below 32, and an immediate that the format can give
unfoldable pub IsValid : Inst → Type 0
IsValid (Lui rd imm) = (rd < 32) × IsUpper imm
IsValid (Auipc rd imm) = (rd < 32) × IsUpper imm
IsValid (Jal rd imm) = (rd < 32) × IsOffset 21 imm
IsValid (Jalr rd rs1 imm) = (rd < 32) × (rs1 < 32) × IsExtended 12 imm
IsValid (Branch cond rs1 rs2 imm) = (rs1 < 32) × (rs2 < 32) × IsOffset 13 imm
IsValid (Load width rd rs1 imm) = (rd < 32) × (rs1 < 32) × IsExtended 12 imm
IsValid (Store width rs1 rs2 imm) = (rs1 < 32) × (rs2 < 32) × IsExtended 12 imm
IsValid (OpImm op rd rs1 imm) = (rd < 32) × (rs1 < 32) × IsOperand op imm
IsValid (Op op rd rs1 rs2) = (rd < 32) × (rs1 < 32) × (rs2 < 32)
IsValid (Fence fields) = fields < 2 ^ 22
IsValid Ecall = Unit {0}
IsValid Ebreak = Unit {0}
