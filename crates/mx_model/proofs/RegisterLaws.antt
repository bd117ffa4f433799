-- Registers stay 32 numbers of 32 bits with x0 zero: writes, saves, restores, and the effect of every instruction.
use Rattle.std.proofs.Common.{◌≡◌, ℕ, zero, suc, ◌-◌, ◌*◌, ◌%◌, ◌^◌, ◌<◌, ◌≤◌, Bool, true, false, ◌==◌, cond, List, [], ◌∷◌, length, get_or}
use Rattle.std.proofs.Common.{set, fold, refl, ◌∙◌, arith, rules, lit<, eqb-true, ⊎_elim, ℤ, pos}
use Rattle.std.proofs.Common.{map as list_map}
use Rattle.std.specs.Prelude.{zip, slice_set, bit_and}
use Rattle.std.specs.Int.{int_shr}
use Rattle.std.proofs.lemmas.List.{length-set, get_or-set_other}
use Rattle.std.proofs.lemmas.Bool.{eqb-false}
use Rattle.std.proofs.lemmas.Nat.{xor_lt, or_lt, and_le_l, mod_below}
use Rattle.mx_isa.specs.Fields.{extended}
use Rattle.mx_isa.specs.declared.inst.Inst.{Inst}
use Rattle.mx_isa.specs.declared.inst.Inst.TheVariants.{Lui, Auipc, Jal, Jalr, Branch, Load, Store, OpImm, Op, Fence, Ecall, Ebreak}
use Rattle.mx_isa.specs.declared.inst.LoadWidth.{LoadWidth}
use Rattle.mx_isa.specs.declared.inst.ImmOp.{ImmOp}
use Rattle.mx_isa.specs.declared.inst.ImmOp.TheVariants.{Addi, Slti, Sltiu, Xori, Ori, Andi, Slli, Srli, Srai}
use Rattle.mx_isa.specs.declared.inst.RegOp.{RegOp}
use Rattle.mx_isa.specs.declared.inst.RegOp.TheVariants.{Add, Sub, Sll, Slt, Sltu, Xor, Srl, Sra, Or, And, Mul, Mulh, Mulhsu, Mulhu, Div}
use Rattle.mx_isa.specs.declared.inst.RegOp.TheVariants.{Divu, Rem, Remu}
use Rattle.mx_isa.specs.Ranges.{IsValid as IsValidInst, IsExtended, IsOperand}
use Rattle.mx_model.specs.Effect.{Effect, Goes, Faults, Loads, Stores, Calls, Jumps, effect, reg, written, plus, next, taken, takes, flag}
use Rattle.mx_model.specs.Effect.{wrapped, right, imm_result, reg_result, loaded, load_size, store_size, holds}
use Rattle.mx_model.specs.Turn.{saved, saved_registers, restored}
use Rattle.mx_model.specs.Valid.{IsPc, IsRegisters}

not_zero : (r : ℕ) → (r == 0) ≡ false → 0 < r
not_zero r e = grind (arith, eqb-false r 0 e)

-- an element set
set-small : (xs : List ℕ) (k v : ℕ) → ((i : ℕ) → get_or xs i 0 < 2 ^ 32) → v < 2 ^ 32 → (i : ℕ) → get_or (set xs k v) i 0 < 2 ^ 32
set-small [] k v h p i = h i
set-small (x ∷ xs) zero v h p zero = p
set-small (x ∷ xs) zero v h p (suc i) = h (suc i)
set-small (x ∷ xs) (suc k) v h p zero = h zero
set-small (x ∷ xs) (suc k) v h p (suc i) = set-small xs k v (λ j. h (suc j)) p i

set-first : (xs : List ℕ) (k v : ℕ) → 0 < k → get_or (set xs k v) 0 0 ≡ get_or xs 0 0
set-first xs k v p = get_or-set_other xs k 0 v 0 (λ e. let q : ⊥ = omega (arith, e, p) in q)

-- a register other than x0 set
pub registers-set : (regs : List ℕ) (k v : ℕ) → 0 < k → IsRegisters regs → v < 2 ^ 32 → IsRegisters (slice_set regs k v)
registers-set regs k v o h p = record {
  count = length-set regs k v ∙ h.count;
  small = set-small regs k v h.small p;
  x0 = set-first regs k v o ∙ h.x0;
}

pub registers-written : (regs : List ℕ) (r v : ℕ) → IsRegisters regs → v < 2 ^ 32 → IsRegisters (written regs r v)
registers-written regs r v h p = elim (r == 0) as (λ b. (r == 0) ≡ b → IsRegisters (cond b regs (slice_set regs r v))) [
  | true ↦ λ e. h
  | false ↦ λ e. registers-set regs r v (not_zero r e) h p
] refl

-- saved and restored registers
map-small : (regs ns : List ℕ) → ((i : ℕ) → get_or regs i 0 < 2 ^ 32) → (i : ℕ) → get_or (list_map (reg regs) ns) i 0 < 2 ^ 32
map-small regs [] h i = omega arith
map-small regs (n ∷ ns) h zero = h n
map-small regs (n ∷ ns) h (suc i) = map-small regs ns h i

pub saved-count : (regs : List ℕ) → length (saved regs) ≡ 15
saved-count regs = refl

pub saved-small : (regs : List ℕ) → IsRegisters regs → (i : ℕ) → get_or (saved regs) i 0 < 2 ^ 32
saved-small regs h = map-small regs saved_registers h.small

-- numbers of registers other than x0
abbrev IsPositive : List ℕ → Type 0
IsPositive [] = Unit {0}
IsPositive (n ∷ ns) = (0 < n) × IsPositive ns

-- values put into such registers
put-all : (ns ks regs : List ℕ) → IsPositive ns → ((i : ℕ) → get_or ks i 0 < 2 ^ 32) → IsRegisters regs →
    IsRegisters (fold (λ rs (p : ℕ × ℕ). slice_set rs p.0 p.1) regs (zip ns ks))
put-all [] ks regs e h r = r
put-all (n ∷ ns) [] regs e h r = r
put-all (n ∷ ns) (k ∷ ks) regs e h r =
    put-all ns ks (slice_set regs n k) e.1 (λ i. h (suc i)) (registers-set regs n k e.0 r (h 0))

saved-positive : IsPositive saved_registers
saved-positive = search rules

pub registers-restored : (regs kept : List ℕ) → IsRegisters regs → ((i : ℕ) → get_or kept i 0 < 2 ^ 32) → IsRegisters (restored regs kept)
registers-restored regs kept r h = put-all saved_registers kept regs saved-positive h r

-- numbers of 32 bits
pub small-plus : (a b : ℕ) → plus a b < 2 ^ 32
small-plus a b = omega arith

small-wrapped : (z : ℤ) → wrapped z < 2 ^ 32
small-wrapped x = grind arith

small-flag : (b : Bool) → flag b < 2 ^ 32
small-flag x = grind arith

small-right : (a k : ℕ) → a < 2 ^ 32 → right a k < 2 ^ 32
small-right a k p = omega arith

small-and : (a b : ℕ) → a < 2 ^ 32 → bit_and a b < 2 ^ 32
small-and a b p = let e : bit_and a b ≤ a = and_le_l a b in omega (arith, e)

-- the results of operations
small-imm : (op : ImmOp) (a b : ℕ) → a < 2 ^ 32 → b < 2 ^ 32 → imm_result op a b < 2 ^ 32
unfolding imm_result
small-imm Addi a b p q = small-plus a b
small-imm Slti a b p q = small-flag _
small-imm Sltiu a b p q = small-flag _
small-imm Xori a b p q = xor_lt 32 a b p q
small-imm Ori a b p q = or_lt 32 a b p q
small-imm Andi a b p q = small-and a b p
small-imm Slli a b p q = omega arith
small-imm Srli a b p q = small-right a (b % 32) p
small-imm Srai a b p q = small-wrapped _

small-choice : (c : Bool) (a b : ℕ) → a < 2 ^ 32 → b < 2 ^ 32 → cond c a b < 2 ^ 32
small-choice x a b p q = grind arith

small-reg : (op : RegOp) (a b : ℕ) → a < 2 ^ 32 → b < 2 ^ 32 → reg_result op a b < 2 ^ 32
unfolding reg_result
small-reg Add a b p q = small-plus a b
small-reg Sub a b p q = omega arith
small-reg Sll a b p q = omega arith
small-reg Slt a b p q = small-flag _
small-reg Sltu a b p q = small-flag _
small-reg Xor a b p q = xor_lt 32 a b p q
small-reg Srl a b p q = small-right a (b % 32) p
small-reg Sra a b p q = small-wrapped _
small-reg Or a b p q = or_lt 32 a b p q
small-reg And a b p q = small-and a b p
small-reg Mul a b p q = mod_below (a * b) (2 ^ 32) (lit< tt)
small-reg Mulh a b p q = small-wrapped _
small-reg Mulhsu a b p q = small-wrapped _
small-reg Mulhu a b p q = small-wrapped (int_shr (pos (a * b)) 32)
small-reg Div a b p q = small-choice (b == 0) _ _ (lit< tt) (small-wrapped _)
small-reg Divu a b p q = small-choice (b == 0) _ _ (lit< tt) (omega arith)
small-reg Rem a b p q = small-choice (b == 0) _ _ p (small-wrapped _)
small-reg Remu a b p q = small-choice (b == 0) _ _ p (omega arith)

-- what a load writes
pub small-loaded : (width : LoadWidth) (n : ℕ) → n < 256 ^ load_size width → loaded width n < 2 ^ 32
unfolding loaded extended
small-loaded x n p = grind (arith, small-choice)

-- the next instruction
pub pc-next : (pc : ℕ) → IsPc pc → IsPc (next pc)
pc-next pc h = record { aligned = omega arith; small = omega arith }

-- a cause of a fault is a byte's number
abbrev pub IsCause : ℕ → Type 0
IsCause cause = cause < 256

-- what an effect leaves is valid
abbrev pub IsEffect : Effect → Type 0
IsEffect (Goes regs pc) = IsRegisters regs × IsPc pc
IsEffect (Faults cause value) = IsCause cause
IsEffect (Loads p address width rd) = Unit {0}
IsEffect (Stores p address size value) = Unit {0}
IsEffect Calls = Unit {0}
IsEffect (Jumps rd target) = target < 2 ^ 32

effect-taken : (regs : List ℕ) (target : ℕ) → IsRegisters regs → target < 2 ^ 32 → IsEffect (taken regs target)
effect-taken regs target h p = elim (target % 4 == 0) as (λ b. (target % 4 == 0) ≡ b
    → IsEffect (cond b (Goes regs target) (Faults 0 target))) [
      | true ↦ λ e. (h, record { aligned = eqb-true (target % 4) 0 e; small = p })
      | false ↦ λ e. lit< tt
    ] refl

effect-takes : (regs : List ℕ) (pc rd v : ℕ) → IsRegisters regs → IsPc pc → v < 2 ^ 32 → IsEffect (takes regs pc rd v)
effect-takes regs pc rd v h p q = (registers-written regs rd v h q, pc-next pc p)

effect-choice : (b : Bool) (e f : Effect) → IsEffect e → IsEffect f → IsEffect (cond b e f)
effect-choice x e f p q = grind arith

extended-small : (count imm : ℕ) → IsExtended count imm → 2 ^ (count - 1) ≤ 2 ^ 31 → imm < 2 ^ 32
extended-small count imm h p = ⊎_elim (λ l. (omega (arith, l, p))) (λ r. r.1) h

operand-small : (op : ImmOp) (imm : ℕ) → IsOperand op imm → imm < 2 ^ 32
operand-small x imm h = grind (arith, extended-small)

pub effect-valid : (inst : Inst) (regs : List ℕ) (pc : ℕ) → IsValidInst inst → IsRegisters regs → IsPc pc → IsEffect (effect inst regs pc)
unfolding effect IsValidInst
effect-valid (Lui rd imm) regs pc v h p = effect-takes regs pc rd imm h p v.1.0
effect-valid (Auipc rd imm) regs pc v h p = effect-takes regs pc rd _ h p (small-plus pc imm)
effect-valid (Jal rd imm) regs pc v h p = small-plus pc imm
effect-valid (Jalr rd rs1 imm) regs pc v h p = let e = small-plus (reg regs rs1) imm in omega (arith, e)
effect-valid (Branch c rs1 rs2 imm) regs pc v h p =
    effect-choice (holds c (reg regs rs1) (reg regs rs2)) _ _ (effect-taken regs (plus pc imm) h (small-plus pc imm)) (h, pc-next pc p)
effect-valid (Load width rd rs1 imm) regs pc v h p =
    effect-choice (plus (reg regs rs1) imm % load_size width == 0) (Loads rs1 (plus (reg regs rs1) imm) width rd)
    (Faults 4 (plus (reg regs rs1) imm)) tt (lit< tt)
effect-valid (Store width rs1 rs2 imm) regs pc v h p =
    effect-choice (plus (reg regs rs1) imm % store_size width == 0) (Stores rs1 (plus (reg regs rs1) imm) (store_size width) (reg regs rs2))
    (Faults 6 (plus (reg regs rs1) imm)) tt (lit< tt)
effect-valid (OpImm op rd rs1 imm) regs pc v h p =
    effect-takes regs pc rd _ h p (small-imm op (reg regs rs1) imm (h.small rs1) (operand-small op imm v.2))
effect-valid (Op op rd rs1 rs2) regs pc v h p =
    effect-takes regs pc rd _ h p (small-reg op (reg regs rs1) (reg regs rs2) (h.small rs1) (h.small rs2))
effect-valid (Fence fields) regs pc v h p = (h, pc-next pc p)
effect-valid Ecall regs pc v h p = tt
effect-valid Ebreak regs pc v h p = lit< tt
