-- The accesses of an instruction are aligned, and an aligned access lies in one word.
use Rattle.std.proofs.Common.{◌≡◌, ℕ, ◌+◌, ◌-◌, ◌%◌, ◌≤◌, Bool, true, cond, ◌==◌, List, eqb-true, arith}
use Rattle.mx_words.specs.Bytes.{IsSize}
use Rattle.mx_words.specs.Ranges.{ram_base}
use Rattle.mx_isa.specs.declared.inst.Inst.{Inst}
use Rattle.mx_isa.specs.declared.inst.Inst.TheVariants.{Lui, Auipc, Jal, Jalr, Branch, Load, Store, OpImm, Op, Fence, Ecall, Ebreak}
use Rattle.mx_isa.specs.declared.inst.StoreWidth.{StoreWidth}
use Rattle.mx_model.specs.Effect.{Effect, Goes, Faults, Loads, Stores, Calls, Jumps, effect, reg, next, load_size, store_size, plus, taken}
use Rattle.mx_model.specs.Effect.{holds}

abbrev pub IsAligned : Effect → Type 0
IsAligned (Goes regs pc) = Unit {0}
IsAligned (Faults cause value) = Unit {0}
IsAligned (Loads p address width rd) = address % load_size width ≡ 0
IsAligned (Stores p address size value) = IsSize size × (address % size ≡ 0)
IsAligned Calls = Unit {0}
IsAligned (Jumps rd target) = Unit {0}

aligned-choice : (b : Bool) (e f : Effect) → (b ≡ true → IsAligned e) → IsAligned f → IsAligned (cond b e f)
aligned-choice x e f p q = grind arith

size-store : (width : StoreWidth) → IsSize (store_size width)
size-store x = grind arith

pub aligned-effect : (inst : Inst) (regs : List ℕ) (pc : ℕ) → IsAligned (effect inst regs pc)
unfolding effect
aligned-effect (Lui rd imm) regs pc = tt
aligned-effect (Auipc rd imm) regs pc = tt
aligned-effect (Jal rd imm) regs pc = tt
aligned-effect (Jalr rd rs1 imm) regs pc = tt
aligned-effect (Branch c rs1 rs2 imm) regs pc =
    aligned-choice (holds c (reg regs rs1) (reg regs rs2)) (taken regs (plus pc imm)) (Goes regs (next pc))
    (λ e. aligned-choice (plus pc imm % 4 == 0) (Goes regs (plus pc imm)) (Faults 0 (plus pc imm)) (λ f. tt) tt) tt
aligned-effect (Load width rd rs1 imm) regs pc =
    let address = plus (reg regs rs1) imm in
    aligned-choice (address % load_size width == 0) (Loads rs1 address width rd) (Faults 4 address) (λ e.
    eqb-true (address % load_size width) 0 e) tt
aligned-effect (Store width rs1 rs2 imm) regs pc =
    let address = plus (reg regs rs1) imm in
    aligned-choice (address % store_size width == 0) (Stores rs1 address (store_size width) (reg regs rs2)) (Faults 6 address)
    (λ e. (size-store width, eqb-true (address % store_size width) 0 e)) tt
aligned-effect (OpImm op rd rs1 imm) regs pc = tt
aligned-effect (Op op rd rs1 rs2) regs pc = tt
aligned-effect (Fence fields) regs pc = tt
aligned-effect Ecall regs pc = tt
aligned-effect Ebreak regs pc = tt

pub in-word : (size address : ℕ) → IsSize size → address % size ≡ 0 → ram_base ≤ address → (address - ram_base) % 4 + size ≤ 4
in-word size address s a l = search arith
