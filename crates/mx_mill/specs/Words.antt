-- The program of a module of `mill`: eighteen instructions.
-- The rules: docs/COMMANDS.md, "The mill".
use Rattle.std.specs.Prelude.{ℕ, ◌+◌, ◌-◌, ◌*◌, ◌^◌, ◌==◌, if◌then◌else◌, List, [], ◌∷◌, map}
use Rattle.mx_words.specs.Calls.{alloc_call, free_call, grant_call}
use Rattle.mx_words.specs.Ranges.{ram_base}
use Rattle.mx_isa.specs.declared.inst.Inst.{Inst}
use Rattle.mx_isa.specs.declared.inst.Inst.TheVariants.{Lui, Jal, Jalr, Load, Store, OpImm, Ecall}
use Rattle.mx_isa.specs.declared.inst.ImmOp.TheVariants.{Addi}
use Rattle.mx_isa.specs.declared.inst.LoadWidth.TheVariants.{Lw}
use Rattle.mx_isa.specs.declared.inst.StoreWidth.TheVariants.{Sw}
use Rattle.mx_isa.specs.Table.{encoded}
use Rattle.mx_mill.specs.declared.draws.Draws.{Draws}

-- how many modules there are, and how many harts
abbrev pub module_count : ℕ
module_count = 15

abbrev pub hart_count : ℕ
hart_count = 4

-- the address of module i, which counts from 1
abbrev pub base : ℕ → ℕ
base i = ram_base + 0x8000 * (i - 1)

-- the module into which module i crosses, and the one that crosses into it
abbrev pub module_after : ℕ → ℕ
module_after i = if i == module_count then 1 else i + 1

abbrev pub module_before : ℕ → ℕ
module_before i = if i == 1 then module_count else i - 1

abbrev pub addi : ℕ → ℕ → ℕ → Inst
addi rd rs1 imm = OpImm Addi rd rs1 imm

-- a block is taken and written; it is granted as drawn; the next module is called, after which the block is given back, and all begins
-- anew; and what another module comes to that calls this one
abbrev pub instructions : ℕ → Draws → List Inst
instructions i n =
    addi 10 0 n.words ∷ addi 17 0 alloc_call ∷ Ecall ∷ addi 8 10 0 ∷ Store Sw 8 17 0
    ∷ addi 11 0 (4 * n.words) ∷ addi 12 0 n.domain ∷ addi 13 0 n.right ∷ addi 17 0 grant_call
    ∷ Ecall ∷ Lui 5 (base (module_after i)) ∷ Jalr 1 5 64 ∷ addi 10 8 0 ∷ addi 17 0 free_call
    ∷ Ecall ∷ Jal 0 (2 ^ 32 - 60) ∷ Load Lw 6 5 0 ∷ Jalr 0 1 0 ∷ []

-- their words
abbrev pub mill_words : ℕ → Draws → List ℕ
mill_words i n = map encoded (instructions i n)

-- the words of each module, by the draws of each
abbrev pub words_by : (ℕ → Draws) → ℕ → List ℕ
words_by n i = mill_words i (n i)
