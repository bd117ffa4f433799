-- An instruction that a row of turns carries out: what an allowed fetch of its word comes to, and which places it touches.
use Rattle.std.proofs.Common.{◌≡◌, ◌≢◌, ℕ, Bool, true, false, not, ◌==◌, ◌%◌, cond, List, [], ◌∷◌, refl, sym, ap, ◌∙◌, Option, Some, None}
use Rattle.mx_words.specs.declared.perm.Perm.{Perm}
use Rattle.mx_words.specs.declared.perm.Access.TheVariants.{Execute}
use Rattle.mx_isa.specs.declared.inst.Inst.{Inst}
use Rattle.mx_isa.specs.declared.inst.Inst.TheVariants.{Lui, Auipc, Jal, Jalr, Branch, Load, Store, OpImm, Op, Fence, Ecall, Ebreak}
use Rattle.mx_isa.specs.Table.{decoded}
use Rattle.mx_model.specs.Effect.{Goes, Faults, Loads, Stores, effect, holds, load_size, next, plus, reg, store_size, taken}
use Rattle.mx_core.specs.Bus.{denied, load_at, Touch}
use Rattle.mx_core.specs.Exec.{after_fetch, effect_of, fetched, touches_of}
use Rattle.mx_core.specs.Memo.{quick, stays, staying}

-- an instruction that stays is the one that was decoded
staying-is : (o : Option Inst) (inst : Inst) → staying o ≡ Some inst → (o ≡ Some inst) × (stays inst ≡ true)
staying-is None inst e = absurd (let z : ⊥ = cc in z)
staying-is (Some i) inst e = by (stays i) refl e
  where
    by : (b : Bool) → stays i ≡ b → cond b (Some i) None ≡ Some inst → (◌≡◌ {A = Option Inst} (Some i) (Some inst)) × (stays inst ≡ true)
    by true s q = let same : i ≡ inst = cc in (q, ap stays (sym same) ∙ s)
    by false s q = absurd (let z : ⊥ = cc in z)

-- an allowed fetch comes to the instruction's effect
pub fetched-quick : (perm : ℕ → Perm) (bytes regs : List ℕ) (pc : ℕ) (inst : Inst) → denied perm pc Execute ≡ false
    → quick (load_at bytes pc 4) ≡ Some inst →
    fetched perm bytes regs pc ≡ effect inst regs pc
unfolding fetched
fetched-quick perm bytes regs pc inst allowed q =
    ap (after_fetch bytes regs pc) allowed ∙ ap (effect_of regs pc (load_at bytes pc 4))
    (staying-is (decoded (load_at bytes pc 4)) inst q).0

-- touches by other places than 0
abbrev pub AreAway : List Touch → Type 0
AreAway [] = Unit {0}
AreAway (t ∷ ts) = (t.place ≢ 0) × AreAway ts

not-zero : (r : ℕ) → not (r == 0) ≡ true → r ≢ 0
not-zero r s e = absurd (let z : false ≡ true = sym (ap (λ (n : ℕ). not (n == 0)) e) ∙ s in let y : ⊥ = cc in y)

-- what doesn't access touches nothing more
taken-away : (b : Bool) (regs : List ℕ) (target pc : ℕ) → AreAway (touches_of (cond b (taken regs target) (Goes regs pc)))
unfolding touches_of
taken-away true regs target pc = elim (target % 4 == 0) as (λ b. AreAway (touches_of (cond b (Goes regs target) (Faults 0 target))))
    [ true ↦ tt | false ↦ tt ]
taken-away false regs target pc = tt

effect-away : (inst : Inst) (regs : List ℕ) (pc : ℕ) → stays inst ≡ true → AreAway (touches_of (effect inst regs pc))
unfolding effect touches_of
effect-away (Lui rd imm) regs pc s = tt
effect-away (Auipc rd imm) regs pc s = tt
effect-away (Jal rd imm) regs pc s = tt
effect-away (Jalr rd rs1 imm) regs pc s = tt
effect-away (Branch c rs1 rs2 imm) regs pc s = taken-away (holds c (reg regs rs1) (reg regs rs2)) regs (plus pc imm) (next pc)
effect-away (Load width rd rs1 imm) regs pc s =
    let a = plus (reg regs rs1) imm in
    elim (a % load_size width == 0) as (λ b. AreAway (touches_of (cond b (Loads rs1 a width rd) (Faults 4 a)))) [
      | true ↦
          (not-zero rs1 s, tt)
      | false ↦ tt
    ]
effect-away (Store width rs1 rs2 imm) regs pc s =
    let a = plus (reg regs rs1) imm in
    elim (a % store_size width == 0) as (λ b. AreAway (touches_of (cond b (Stores rs1 a (store_size width) (reg regs rs2)) (Faults 6 a))))
    [ true ↦ (not-zero rs1 s, tt) | false ↦ tt ]
effect-away (OpImm op rd rs1 imm) regs pc s = tt
effect-away (Op op rd rs1 rs2) regs pc s = tt
effect-away (Fence fields) regs pc s = tt
effect-away Ecall regs pc s = tt
effect-away Ebreak regs pc s = tt

pub touches-away : (word : ℕ) (inst : Inst) (regs : List ℕ) (pc : ℕ) → quick word ≡ Some inst → AreAway (touches_of (effect inst regs pc))
touches-away word inst regs pc q = effect-away inst regs pc (staying-is (decoded word) inst q).1
