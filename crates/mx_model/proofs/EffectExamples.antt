-- Worked examples of what each instruction does, computed.
use Rattle.std.specs.Prelude.{◌≡◌, ℕ, Bool, true, false, List, [], ◌∷◌, fold, slice_set, refl}
use Rattle.std.specs.Prelude.{map as list_map}
use Rattle.mx_isa.specs.Fields.{extended}
use Rattle.mx_isa.specs.declared.inst.Inst.{Inst}
use Rattle.mx_isa.specs.declared.inst.Inst.TheVariants as O
use Rattle.mx_isa.specs.declared.inst.Cond.{Cond}
use Rattle.mx_isa.specs.declared.inst.Cond.TheVariants as C
use Rattle.mx_isa.specs.declared.inst.ImmOp.{ImmOp}
use Rattle.mx_isa.specs.declared.inst.ImmOp.TheVariants as I
use Rattle.mx_isa.specs.declared.inst.LoadWidth.TheVariants as L
use Rattle.mx_isa.specs.declared.inst.RegOp.{RegOp}
use Rattle.mx_isa.specs.declared.inst.RegOp.TheVariants as R
use Rattle.mx_isa.specs.declared.inst.StoreWidth.TheVariants as S
use Rattle.mx_model.specs.Effect.{Effect, Goes, Faults, Loads, Stores, Calls, Jumps, effect, holds, imm_result, loaded, reg_result}
use Rattle.mx_model.proofs.Boots.{regs_with}

-- pairs of operands: of both signs, at the corners of 32 bits, zero, and a shift by more than 31
abbrev pairs : List (ℕ × ℕ)
pairs = (7, 0xFFFFFFFD) ∷ (0x80000000, 0xFFFFFFFF) ∷ (0xFFFFFFF9, 3) ∷ (5, 33) ∷ (0x80000005, 0) ∷ (0x7FFFFFFF, 0x80000000)
    ∷ (0x80000000, 0x80000000) ∷ []

abbrev by_registers : RegOp → List ℕ
by_registers op = list_map (λ (p : ℕ × ℕ). reg_result op p.0 p.1) pairs

abbrev by_immediate : ImmOp → List ℕ
by_immediate op = list_map (λ (p : ℕ × ℕ). imm_result op p.0 p.1) pairs

abbrev branches : Cond → List Bool
branches cond = list_map (λ (p : ℕ × ℕ). holds cond p.0 p.1) pairs

-- the results of each operation
add-registers : by_registers R.Add ≡ 4 ∷ 0x7FFFFFFF ∷ 0xFFFFFFFC ∷ 38 ∷ 0x80000005 ∷ 0xFFFFFFFF ∷ 0 ∷ []
unfolding reg_result
add-registers = refl

sub-registers : by_registers R.Sub ≡ 10 ∷ 0x80000001 ∷ 0xFFFFFFF6 ∷ 0xFFFFFFE4 ∷ 0x80000005 ∷ 0xFFFFFFFF ∷ 0 ∷ []
unfolding reg_result
sub-registers = refl

sll-registers : by_registers R.Sll ≡ 0xE0000000 ∷ 0 ∷ 0xFFFFFFC8 ∷ 10 ∷ 0x80000005 ∷ 0x7FFFFFFF ∷ 0x80000000 ∷ []
unfolding reg_result
sll-registers = refl

slt-registers : by_registers R.Slt ≡ 0 ∷ 1 ∷ 1 ∷ 1 ∷ 1 ∷ 0 ∷ 0 ∷ []
unfolding reg_result
slt-registers = refl

sltu-registers : by_registers R.Sltu ≡ 1 ∷ 1 ∷ 0 ∷ 1 ∷ 0 ∷ 1 ∷ 0 ∷ []
unfolding reg_result
sltu-registers = refl

xor-registers : by_registers R.Xor ≡ 0xFFFFFFFA ∷ 0x7FFFFFFF ∷ 0xFFFFFFFA ∷ 36 ∷ 0x80000005 ∷ 0xFFFFFFFF ∷ 0 ∷ []
unfolding reg_result
xor-registers = refl

srl-registers : by_registers R.Srl ≡ 0 ∷ 1 ∷ 0x1FFFFFFF ∷ 2 ∷ 0x80000005 ∷ 0x7FFFFFFF ∷ 0x80000000 ∷ []
unfolding reg_result
srl-registers = refl

sra-registers : by_registers R.Sra ≡ 0 ∷ 0xFFFFFFFF ∷ 0xFFFFFFFF ∷ 2 ∷ 0x80000005 ∷ 0x7FFFFFFF ∷ 0x80000000 ∷ []
unfolding reg_result
sra-registers = refl

or-registers : by_registers R.Or ≡ 0xFFFFFFFF ∷ 0xFFFFFFFF ∷ 0xFFFFFFFB ∷ 37 ∷ 0x80000005 ∷ 0xFFFFFFFF ∷ 0x80000000 ∷ []
unfolding reg_result
or-registers = refl

and-registers : by_registers R.And ≡ 5 ∷ 0x80000000 ∷ 1 ∷ 1 ∷ 0 ∷ 0 ∷ 0x80000000 ∷ []
unfolding reg_result
and-registers = refl

mul-registers : by_registers R.Mul ≡ 0xFFFFFFEB ∷ 0x80000000 ∷ 0xFFFFFFEB ∷ 165 ∷ 0 ∷ 0x80000000 ∷ 0 ∷ []
unfolding reg_result
mul-registers = refl

mulh-registers : by_registers R.Mulh ≡ 0xFFFFFFFF ∷ 0 ∷ 0xFFFFFFFF ∷ 0 ∷ 0 ∷ 0xC0000000 ∷ 0x40000000 ∷ []
unfolding reg_result
mulh-registers = refl

mulhsu-registers : by_registers R.Mulhsu ≡ 6 ∷ 0x80000000 ∷ 0xFFFFFFFF ∷ 0 ∷ 0 ∷ 0x3FFFFFFF ∷ 0xC0000000 ∷ []
unfolding reg_result
mulhsu-registers = refl

mulhu-registers : by_registers R.Mulhu ≡ 6 ∷ 0x7FFFFFFF ∷ 2 ∷ 0 ∷ 0 ∷ 0x3FFFFFFF ∷ 0x40000000 ∷ []
unfolding reg_result
mulhu-registers = refl

div-registers : by_registers R.Div ≡ 0xFFFFFFFE ∷ 0x80000000 ∷ 0xFFFFFFFE ∷ 0 ∷ 0xFFFFFFFF ∷ 0 ∷ 1 ∷ []
unfolding reg_result
div-registers = refl

divu-registers : by_registers R.Divu ≡ 0 ∷ 0 ∷ 0x55555553 ∷ 0 ∷ 0xFFFFFFFF ∷ 0 ∷ 1 ∷ []
unfolding reg_result
divu-registers = refl

rem-registers : by_registers R.Rem ≡ 1 ∷ 0 ∷ 0xFFFFFFFF ∷ 5 ∷ 0x80000005 ∷ 0x7FFFFFFF ∷ 0 ∷ []
unfolding reg_result
rem-registers = refl

remu-registers : by_registers R.Remu ≡ 7 ∷ 0x80000000 ∷ 0 ∷ 5 ∷ 0x80000005 ∷ 0x7FFFFFFF ∷ 0 ∷ []
unfolding reg_result
remu-registers = refl

addi-immediate : by_immediate I.Addi ≡ 4 ∷ 0x7FFFFFFF ∷ 0xFFFFFFFC ∷ 38 ∷ 0x80000005 ∷ 0xFFFFFFFF ∷ 0 ∷ []
unfolding imm_result
addi-immediate = refl

slti-immediate : by_immediate I.Slti ≡ 0 ∷ 1 ∷ 1 ∷ 1 ∷ 1 ∷ 0 ∷ 0 ∷ []
unfolding imm_result
slti-immediate = refl

sltiu-immediate : by_immediate I.Sltiu ≡ 1 ∷ 1 ∷ 0 ∷ 1 ∷ 0 ∷ 1 ∷ 0 ∷ []
unfolding imm_result
sltiu-immediate = refl

xori-immediate : by_immediate I.Xori ≡ 0xFFFFFFFA ∷ 0x7FFFFFFF ∷ 0xFFFFFFFA ∷ 36 ∷ 0x80000005 ∷ 0xFFFFFFFF ∷ 0 ∷ []
unfolding imm_result
xori-immediate = refl

ori-immediate : by_immediate I.Ori ≡ 0xFFFFFFFF ∷ 0xFFFFFFFF ∷ 0xFFFFFFFB ∷ 37 ∷ 0x80000005 ∷ 0xFFFFFFFF ∷ 0x80000000 ∷ []
unfolding imm_result
ori-immediate = refl

andi-immediate : by_immediate I.Andi ≡ 5 ∷ 0x80000000 ∷ 1 ∷ 1 ∷ 0 ∷ 0 ∷ 0x80000000 ∷ []
unfolding imm_result
andi-immediate = refl

slli-immediate : by_immediate I.Slli ≡ 0xE0000000 ∷ 0 ∷ 0xFFFFFFC8 ∷ 10 ∷ 0x80000005 ∷ 0x7FFFFFFF ∷ 0x80000000 ∷ []
unfolding imm_result
slli-immediate = refl

srli-immediate : by_immediate I.Srli ≡ 0 ∷ 1 ∷ 0x1FFFFFFF ∷ 2 ∷ 0x80000005 ∷ 0x7FFFFFFF ∷ 0x80000000 ∷ []
unfolding imm_result
srli-immediate = refl

srai-immediate : by_immediate I.Srai ≡ 0 ∷ 0xFFFFFFFF ∷ 0xFFFFFFFF ∷ 2 ∷ 0x80000005 ∷ 0x7FFFFFFF ∷ 0x80000000 ∷ []
unfolding imm_result
srai-immediate = refl

beq-taken : branches C.Beq ≡ false ∷ false ∷ false ∷ false ∷ false ∷ false ∷ true ∷ []
unfolding holds
beq-taken = refl

bne-taken : branches C.Bne ≡ true ∷ true ∷ true ∷ true ∷ true ∷ true ∷ false ∷ []
unfolding holds
bne-taken = refl

blt-taken : branches C.Blt ≡ false ∷ true ∷ true ∷ true ∷ true ∷ false ∷ false ∷ []
unfolding holds
blt-taken = refl

bge-taken : branches C.Bge ≡ true ∷ false ∷ false ∷ false ∷ false ∷ true ∷ true ∷ []
unfolding holds
bge-taken = refl

bltu-taken : branches C.Bltu ≡ true ∷ true ∷ false ∷ true ∷ false ∷ true ∷ false ∷ []
unfolding holds
bltu-taken = refl

bgeu-taken : branches C.Bgeu ≡ false ∷ false ∷ true ∷ false ∷ true ∷ false ∷ true ∷ []
unfolding holds
bgeu-taken = refl

lb-loaded : list_map (loaded L.Lb) (0 ∷ 127 ∷ 128 ∷ 255 ∷ []) ≡ 0 ∷ 127 ∷ 0xFFFFFF80 ∷ 0xFFFFFFFF ∷ []
unfolding loaded extended
lb-loaded = refl

lh-loaded : list_map (loaded L.Lh) (0 ∷ 0x00007FFF ∷ 0x00008000 ∷ 0x0000FFFF ∷ []) ≡ 0 ∷ 0x00007FFF ∷ 0xFFFF8000 ∷ 0xFFFFFFFF ∷ []
unfolding loaded extended
lh-loaded = refl

lw-loaded : list_map (loaded L.Lw) (0 ∷ 0x7FFFFFFF ∷ 0x80000000 ∷ 0xFFFFFFFF ∷ []) ≡ 0 ∷ 0x7FFFFFFF ∷ 0x80000000 ∷ 0xFFFFFFFF ∷ []
unfolding loaded extended
lw-loaded = refl

lbu-loaded : list_map (loaded L.Lbu) (0 ∷ 127 ∷ 128 ∷ 255 ∷ []) ≡ 0 ∷ 127 ∷ 128 ∷ 255 ∷ []
unfolding loaded extended
lbu-loaded = refl

lhu-loaded : list_map (loaded L.Lhu) (0 ∷ 0x00007FFF ∷ 0x00008000 ∷ 0x0000FFFF ∷ []) ≡ 0 ∷ 0x00007FFF ∷ 0x00008000 ∷ 0x0000FFFF ∷ []
unfolding loaded extended
lhu-loaded = refl

-- registers x5, x6 and x7, and the effects at pc 0x80000010
abbrev regs : List ℕ
regs = regs_with ((5, 0x80000020) ∷ (6, 0xFFFFFFFF) ∷ (7, 3) ∷ [])

abbrev after : Inst → Effect
after inst = effect inst regs 0x80000010

abbrev goes : List (ℕ × ℕ) → ℕ → Effect
goes changes pc = Goes (fold (λ rs (p : ℕ × ℕ). slice_set rs p.0 p.1) regs changes) pc

-- each instruction's effect
lui : after (O.Lui 8 0xFFFFF000) ≡ goes ((8, 0xFFFFF000) ∷ []) 0x80000014
unfolding holds imm_result reg_result loaded effect extended
lui = refl

auipc : after (O.Auipc 8 0xFFFFF000) ≡ goes ((8, 0x7FFFF010) ∷ []) 0x80000014
unfolding holds imm_result reg_result loaded effect extended
auipc = refl

jal : after (O.Jal 8 0xFFFFFFFE) ≡ Jumps 8 0x8000000E
unfolding holds imm_result reg_result loaded effect extended
jal = refl

jalr : after (O.Jalr 8 5 0xFFFFFFFF) ≡ Jumps 8 0x8000001E
unfolding holds imm_result reg_result loaded effect extended
jalr = refl

-- a branch is taken to pc + B, or not; a taken one to no multiple of 4 faults by 0 with the target
branch-taken : after (O.Branch C.Blt 6 7 0xFFFFFFF8) ≡ goes [] 0x80000008
unfolding holds imm_result reg_result loaded effect extended
branch-taken = refl

branch-not-taken : after (O.Branch C.Bltu 6 7 0xFFFFFFF8) ≡ goes [] 0x80000014
unfolding holds imm_result reg_result loaded effect extended
branch-not-taken = refl

branch-misaligned : after (O.Branch C.Blt 6 7 6) ≡ Faults 0 0x80000016
unfolding holds imm_result reg_result loaded effect extended
branch-misaligned = refl

branch-misaligned-not-taken : after (O.Branch C.Bltu 6 7 6) ≡ goes [] 0x80000014
unfolding holds imm_result reg_result loaded effect extended
branch-misaligned-not-taken = refl

load-lb-odd : after (O.Load L.Lb 8 5 1) ≡ Loads 5 0x80000021 L.Lb 8
unfolding holds imm_result reg_result loaded effect extended
load-lb-odd = refl

load-lb-even : after (O.Load L.Lb 8 6 3) ≡ Loads 6 2 L.Lb 8
unfolding holds imm_result reg_result loaded effect extended
load-lb-even = refl

load-lh-odd : after (O.Load L.Lh 8 5 1) ≡ Faults 4 0x80000021
unfolding holds imm_result reg_result loaded effect extended
load-lh-odd = refl

load-lh-even : after (O.Load L.Lh 8 6 3) ≡ Loads 6 2 L.Lh 8
unfolding holds imm_result reg_result loaded effect extended
load-lh-even = refl

load-lw-odd : after (O.Load L.Lw 8 5 1) ≡ Faults 4 0x80000021
unfolding holds imm_result reg_result loaded effect extended
load-lw-odd = refl

load-lw-even : after (O.Load L.Lw 8 6 3) ≡ Faults 4 2
unfolding holds imm_result reg_result loaded effect extended
load-lw-even = refl

load-lbu-odd : after (O.Load L.Lbu 8 5 1) ≡ Loads 5 0x80000021 L.Lbu 8
unfolding holds imm_result reg_result loaded effect extended
load-lbu-odd = refl

load-lbu-even : after (O.Load L.Lbu 8 6 3) ≡ Loads 6 2 L.Lbu 8
unfolding holds imm_result reg_result loaded effect extended
load-lbu-even = refl

load-lhu-odd : after (O.Load L.Lhu 8 5 1) ≡ Faults 4 0x80000021
unfolding holds imm_result reg_result loaded effect extended
load-lhu-odd = refl

load-lhu-even : after (O.Load L.Lhu 8 6 3) ≡ Loads 6 2 L.Lhu 8
unfolding holds imm_result reg_result loaded effect extended
load-lhu-even = refl

load-lw-aligned : after (O.Load L.Lw 8 5 0xFFFFFFFC) ≡ Loads 5 0x8000001C L.Lw 8
unfolding holds imm_result reg_result loaded effect extended
load-lw-aligned = refl

store-sb-odd : after (O.Store S.Sb 5 7 1) ≡ Stores 5 0x80000021 1 3
unfolding holds imm_result reg_result loaded effect extended
store-sb-odd = refl

store-sb-even : after (O.Store S.Sb 6 7 3) ≡ Stores 6 2 1 3
unfolding holds imm_result reg_result loaded effect extended
store-sb-even = refl

store-sh-odd : after (O.Store S.Sh 5 7 1) ≡ Faults 6 0x80000021
unfolding holds imm_result reg_result loaded effect extended
store-sh-odd = refl

store-sh-even : after (O.Store S.Sh 6 7 3) ≡ Stores 6 2 2 3
unfolding holds imm_result reg_result loaded effect extended
store-sh-even = refl

store-sw-odd : after (O.Store S.Sw 5 7 1) ≡ Faults 6 0x80000021
unfolding holds imm_result reg_result loaded effect extended
store-sw-odd = refl

store-sw-even : after (O.Store S.Sw 6 7 3) ≡ Faults 6 2
unfolding holds imm_result reg_result loaded effect extended
store-sw-even = refl

store-sw-aligned : after (O.Store S.Sw 5 6 0xFFFFFFFC) ≡ Stores 5 0x8000001C 4 0xFFFFFFFF
unfolding holds imm_result reg_result loaded effect extended
store-sw-aligned = refl

with-immediate : after (O.OpImm I.Addi 8 7 0xFFFFFFFE) ≡ goes ((8, 1) ∷ []) 0x80000014
unfolding holds imm_result reg_result loaded effect extended
with-immediate = refl

of-registers : after (O.Op R.Sub 8 7 6) ≡ goes ((8, 4) ∷ []) 0x80000014
unfolding holds imm_result reg_result loaded effect extended
of-registers = refl

-- a write to x0 is lost
into-x0 : after (O.Op R.Sub 0 7 6) ≡ goes [] 0x80000014
unfolding holds imm_result reg_result loaded effect extended
into-x0 = refl

fence : after (O.Fence 0) ≡ goes [] 0x80000014
unfolding holds imm_result reg_result loaded effect extended
fence = refl

ecall : after O.Ecall ≡ Calls
unfolding holds imm_result reg_result loaded effect extended
ecall = refl

ebreak : after O.Ebreak ≡ Faults 3 0x80000010
unfolding holds imm_result reg_result loaded effect extended
ebreak = refl

-- pc is a number modulo 2^32
pc-wraps : effect (O.Fence 0) regs 0xFFFFFFFC ≡ Goes regs 0
unfolding holds imm_result reg_result loaded effect extended
pc-wraps = refl
