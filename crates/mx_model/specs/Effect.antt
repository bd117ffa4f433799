-- What one instruction does: its one access, or its fault, or the new registers and the next pc.
-- The rules: docs/MACHINE.md, "Instructions".
use Rattle.std.specs.Prelude.{ℕ, ◌+◌, ◌-◌, ◌*◌, ◌/◌, ◌%◌, ◌^◌, Bool, not, ◌==◌, nat_lt, if◌then◌else◌, List, slice_index, slice_set, ℤ, pos}
use Rattle.std.specs.Prelude.{negsuc, ◌*ℤ◌, int_lt, int_div, int_rem, bit_and, bit_or, bit_xor}
use Rattle.std.specs.Int.{cast_signed, int_shr, w32}
use Rattle.mx_isa.specs.Fields.{extended}
use Rattle.mx_isa.specs.declared.inst.Inst.{Inst}
use Rattle.mx_isa.specs.declared.inst.Inst.TheVariants.{Lui, Auipc, Jal, Jalr, Branch, Load, Store, OpImm, Op, Fence, Ecall, Ebreak}
use Rattle.mx_isa.specs.declared.inst.Cond.{Cond}
use Rattle.mx_isa.specs.declared.inst.Cond.TheVariants.{Beq, Bne, Blt, Bge, Bltu, Bgeu}
use Rattle.mx_isa.specs.declared.inst.LoadWidth.{LoadWidth}
use Rattle.mx_isa.specs.declared.inst.LoadWidth.TheVariants.{Lb, Lh, Lw, Lbu, Lhu}
use Rattle.mx_isa.specs.declared.inst.StoreWidth.{StoreWidth}
use Rattle.mx_isa.specs.declared.inst.StoreWidth.TheVariants.{Sb, Sh, Sw}
use Rattle.mx_isa.specs.declared.inst.ImmOp.{ImmOp}
use Rattle.mx_isa.specs.declared.inst.ImmOp.TheVariants.{Addi, Slti, Sltiu, Xori, Ori, Andi, Slli, Srli, Srai}
use Rattle.mx_isa.specs.declared.inst.RegOp.{RegOp}
use Rattle.mx_isa.specs.declared.inst.RegOp.TheVariants.{Add, Sub, Sll, Slt, Sltu, Xor, Srl, Sra, Or, And, Mul, Mulh, Mulhsu, Mulhu, Div}
use Rattle.mx_isa.specs.declared.inst.RegOp.TheVariants.{Divu, Rem, Remu}

-- what an instruction does; `place` is the number of the access's base register
pub data Effect : Type 0 where
  -- these registers, and this next pc
  Goes : (regs : List ℕ) → (pc : ℕ) → Effect
  -- a fault
  Faults : (cause : ℕ) → (value : ℕ) → Effect
  -- an aligned load: rd takes the bytes at the address, extended as the width says
  Loads : (place : ℕ) → (address : ℕ) → (width : LoadWidth) → (rd : ℕ) → Effect
  -- an aligned store of the low `size` bytes of the value
  Stores : (place : ℕ) → (address : ℕ) → (size : ℕ) → (value : ℕ) → Effect
  -- a supervisor call
  Calls : Effect
  -- a JAL or JALR to the target
  Jumps : (rd : ℕ) → (target : ℕ) → Effect

-- the value of a register
abbrev pub reg : List ℕ → ℕ → ℕ
reg regs r = slice_index regs r

-- the registers with r set to v; a write to x0 is lost
abbrev pub written : List ℕ → ℕ → ℕ → List ℕ
written regs r v = if r == 0 then regs else slice_set regs r v

-- a sum modulo 2^32
abbrev pub plus : ℕ → ℕ → ℕ
plus a b = (a + b) % 2 ^ 32

-- the pc of the next instruction
abbrev pub next : ℕ → ℕ
next pc = plus pc 4

-- 32 bits read as two's complement
abbrev pub signed : ℕ → ℤ
signed n = cast_signed w32 n

-- a number modulo 2^32
abbrev pub wrapped : ℤ → ℕ
wrapped (pos n) = n % 2 ^ 32
wrapped (negsuc n) = 2 ^ 32 - 1 - n % 2 ^ 32

-- 1 for true
abbrev pub flag : Bool → ℕ
flag b = if b then 1 else 0

-- a difference modulo 2^32
abbrev pub minus : ℕ → ℕ → ℕ
minus a b = (a + (2 ^ 32 - b)) % 2 ^ 32

-- shifted left
abbrev pub left : ℕ → ℕ → ℕ
left a k = a * 2 ^ k % 2 ^ 32

-- shifted right, zeros coming in
abbrev pub right : ℕ → ℕ → ℕ
right a k = a / 2 ^ k

-- shifted right, the sign coming in
abbrev pub right_signed : ℕ → ℕ → ℕ
right_signed a k = wrapped (int_shr (signed a) k)

-- bits 63..32 of a product
abbrev pub high : ℤ → ℕ
high z = wrapped (int_shr z 32)

-- whether a branch is taken
unfoldable pub holds : Cond → ℕ → ℕ → Bool
holds Beq a b = a == b
holds Bne a b = not (a == b)
holds Blt a b = int_lt (signed a) (signed b)
holds Bge a b = not (int_lt (signed a) (signed b))
holds Bltu a b = nat_lt a b
holds Bgeu a b = not (nat_lt a b)

-- the result of an operation with an immediate
unfoldable pub imm_result : ImmOp → ℕ → ℕ → ℕ
imm_result Addi a b = plus a b
imm_result Slti a b = flag (int_lt (signed a) (signed b))
imm_result Sltiu a b = flag (nat_lt a b)
imm_result Xori a b = bit_xor a b
imm_result Ori a b = bit_or a b
imm_result Andi a b = bit_and a b
imm_result Slli a b = left a (b % 32)
imm_result Srli a b = right a (b % 32)
imm_result Srai a b = right_signed a (b % 32)

-- the result of an operation on two registers
unfoldable pub reg_result : RegOp → ℕ → ℕ → ℕ
reg_result Add a b = plus a b
reg_result Sub a b = minus a b
reg_result Sll a b = left a (b % 32)
reg_result Slt a b = flag (int_lt (signed a) (signed b))
reg_result Sltu a b = flag (nat_lt a b)
reg_result Xor a b = bit_xor a b
reg_result Srl a b = right a (b % 32)
reg_result Sra a b = right_signed a (b % 32)
reg_result Or a b = bit_or a b
reg_result And a b = bit_and a b
reg_result Mul a b = a * b % 2 ^ 32
reg_result Mulh a b = high (signed a *ℤ signed b)
reg_result Mulhsu a b = high (signed a *ℤ pos b)
reg_result Mulhu a b = high (pos (a * b))
reg_result Div a b = if b == 0 then 2 ^ 32 - 1 else wrapped (int_div (signed a) (signed b))
reg_result Divu a b = if b == 0 then 2 ^ 32 - 1 else a / b
reg_result Rem a b = if b == 0 then a else wrapped (int_rem (signed a) (signed b))
reg_result Remu a b = if b == 0 then a else a % b

-- the bytes of a load
abbrev pub load_size : LoadWidth → ℕ
load_size Lb = 1
load_size Lh = 2
load_size Lw = 4
load_size Lbu = 1
load_size Lhu = 2

-- the bytes of a store
abbrev pub store_size : StoreWidth → ℕ
store_size Sb = 1
store_size Sh = 2
store_size Sw = 4

-- what a load writes, from the number that its bytes hold
unfoldable pub loaded : LoadWidth → ℕ → ℕ
loaded Lb n = extended 8 n
loaded Lh n = extended 16 n
loaded Lw n = n
loaded Lbu n = n
loaded Lhu n = n

-- what a jump or a taken branch comes to: one thing where its target is a multiple of 4, and another where it isn't
abbrev pub by_target : {A : Type 0} → ℕ → A → A → A
by_target target aligned misaligned = if target % 4 == 0 then aligned else misaligned

-- a taken branch
abbrev pub taken : List ℕ → ℕ → Effect
taken regs target = by_target target (Goes regs target) (Faults 0 target)

-- rd takes a result, and the hart goes on after the instruction
abbrev pub takes : List ℕ → ℕ → ℕ → ℕ → Effect
takes regs pc rd value = Goes (written regs rd value) (next pc)

-- a load of an address, unless it is misaligned
abbrev pub loads_at : ℕ → ℕ → LoadWidth → ℕ → Effect
loads_at place address width rd =
    if address % load_size width == 0 then Loads place address width rd else Faults 4 address

-- a store to an address, unless it is misaligned
abbrev pub stores_at : ℕ → ℕ → ℕ → ℕ → Effect
stores_at place address size value =
    if address % size == 0 then Stores place address size value else Faults 6 address

-- what an instruction does, of registers and pc
unfoldable pub effect : Inst → List ℕ → ℕ → Effect
effect (Lui rd imm) regs pc = takes regs pc rd imm
effect (Auipc rd imm) regs pc = takes regs pc rd (plus pc imm)
effect (Jal rd imm) regs pc = Jumps rd (plus pc imm)
effect (Jalr rd rs1 imm) regs pc = Jumps rd (plus (reg regs rs1) imm / 2 * 2)
effect (Branch cond rs1 rs2 imm) regs pc =
    if holds cond (reg regs rs1) (reg regs rs2) then taken regs (plus pc imm)
    else Goes regs (next pc)
effect (Load width rd rs1 imm) regs pc = loads_at rs1 (plus (reg regs rs1) imm) width rd
effect (Store width rs1 rs2 imm) regs pc =
    stores_at rs1 (plus (reg regs rs1) imm) (store_size width) (reg regs rs2)
effect (OpImm op rd rs1 imm) regs pc = takes regs pc rd (imm_result op (reg regs rs1) imm)
effect (Op op rd rs1 rs2) regs pc = takes regs pc rd (reg_result op (reg regs rs1) (reg regs rs2))
effect (Fence fields) regs pc = Goes regs (next pc)
effect Ecall regs pc = Calls
effect Ebreak regs pc = Faults 3 pc
