-- A hart at a multiple of 4 is at one after an instruction that it runs.
use Rattle.std.proofs.Common.{◌≡◌, ℕ, ◌%◌, Bool, true, cond, ◌==◌, List, eqb-true, arith, if◌then◌else◌, Option, Some, None}
use Rattle.std.specs.Option.{option_map_or}
use Rattle.mx_words.specs.declared.perm.Access.TheVariants as A
use Rattle.mx_isa.specs.declared.inst.Inst.{Inst}
use Rattle.mx_isa.specs.declared.inst.Inst.TheVariants.{Lui, Auipc, Jal, Jalr, Branch, Load, Store, OpImm, Op, Fence, Ecall, Ebreak}
use Rattle.mx_model.specs.declared.values.Frame.{Frame}
use Rattle.mx_model.specs.Effect.{Effect, Goes, Faults, Loads, Stores, effect, holds, load_size, next, plus, reg, store_size, taken}
use Rattle.mx_model.specs.Reads.{Reads}
use Rattle.mx_model.specs.State.{Core, Hart, module_at}
use Rattle.mx_model.specs.Turn.{Action, Traps, Returns, Runs, Decided, at_gate, by_effect, by_word, fetches, is_denied, returned_over}
use Rattle.mx_model.specs.Turn.{runs_at, runs_in}
use Rattle.mx_laws.proofs.TwinLaws.{action_in, pc_of}

-- where an effect, or an action, leads to
abbrev IsStraight : Effect → Type 0
IsStraight (Goes regs pc) = pc % 4 ≡ 0
IsStraight effect = Unit {0}

abbrev LeadsStraight : Action → Type 0
LeadsStraight (Runs regs pc) = pc % 4 ≡ 0
LeadsStraight action = Unit {0}

straight-next : (pc : ℕ) → pc % 4 ≡ 0 → next pc % 4 ≡ 0
straight-next pc e = omega (arith, e)

straight-choice : (b : Bool) (e f : Effect) → (b ≡ true → IsStraight e) → IsStraight f → IsStraight (cond b e f)
straight-choice x e f p q = grind arith

straight-effect : (inst : Inst) (regs : List ℕ) (pc : ℕ) → pc % 4 ≡ 0 → IsStraight (effect inst regs pc)
unfolding effect
straight-effect (Lui rd imm) regs pc e = straight-next pc e
straight-effect (Auipc rd imm) regs pc e = straight-next pc e
straight-effect (Jal rd imm) regs pc e = tt
straight-effect (Jalr rd rs1 imm) regs pc e = tt
straight-effect (Branch c rs1 rs2 imm) regs pc e =
    straight-choice (holds c (reg regs rs1) (reg regs rs2)) (taken regs (plus pc imm)) (Goes regs (next pc))
    (λ t. straight-choice (plus pc imm % 4 == 0) (Goes regs (plus pc imm)) (Faults 0 (plus pc imm))
    (λ f. eqb-true (plus pc imm % 4) 0 f) tt)
    (straight-next pc e)
straight-effect (Load width rd rs1 imm) regs pc e =
    let address = plus (reg regs rs1) imm in
    straight-choice (address % load_size width == 0) (Loads rs1 address width rd) (Faults 4 address) (λ f. tt) tt
straight-effect (Store width rs1 rs2 imm) regs pc e =
    let address = plus (reg regs rs1) imm in
    straight-choice (address % store_size width == 0) (Stores rs1 address (store_size width) (reg regs rs2))
    (Faults 6 address) (λ f. tt) tt
straight-effect (OpImm op rd rs1 imm) regs pc e = straight-next pc e
straight-effect (Op op rd rs1 rs2) regs pc e = straight-next pc e
straight-effect (Fence fields) regs pc e = straight-next pc e
straight-effect Ecall regs pc e = tt
straight-effect Ebreak regs pc e = tt

action-choice : (b : Bool) (a d : Action) → (b ≡ true → LeadsStraight a) → LeadsStraight d → LeadsStraight (cond b a d)
action-choice x a d p q = grind arith

decided-choice : (b : Bool) (a d : Decided) → LeadsStraight a.action → LeadsStraight d.action →
    LeadsStraight (if b then a else d).action
decided-choice x a d p q = grind arith

straight-at_gate : (c : Core) (x : Hart) (target : ℕ) → LeadsStraight (at_gate c x target).action
straight-at_gate c x target = search (arith, decided-choice)

straight-over : (rd target : ℕ) (o : Option Frame) →
    LeadsStraight (option_map_or (returned_over rd target) o (Traps 18 target))
straight-over rd target None = tt
straight-over rd target (Some frame) =
    action-choice (frame.back == target) (Returns rd frame) (Traps 17 target) (λ e. tt) tt

-- a running hart
module _ (r : Reads) (c : Core) (h : ℕ) (x : Hart) (s : x.pc % 4 ≡ 0) where
  straight-by_effect : (e : Effect) → IsStraight e → LeadsStraight (by_effect r c h x e).action
  straight-by_effect x p = search (arith, action-choice, straight-next, straight-over)

  straight-by_word : (word : ℕ) (o : Option Inst) → LeadsStraight (by_word r c h x word o).action
  straight-by_word word None = tt
  straight-by_word word (Some inst) = straight-by_effect (effect inst x.regs x.pc) (straight-effect inst x.regs x.pc s)

  straight-fetches : (b : Bool) → LeadsStraight (fetches r c h x b).action
  straight-fetches x = grind (arith, straight-by_word)

  straight-runs_at : (o : Option ℕ) → LeadsStraight (runs_at r c h x o).action
  straight-runs_at (Some target) = straight-at_gate c x target
  straight-runs_at None = straight-fetches (is_denied r c x.domain x.pc A.Execute)

  straight-runs_in : (b : Bool) → LeadsStraight (runs_in r c h x b).action
  straight-runs_in x = grind (arith, straight-runs_at)

straight-pc : (x : Hart) (a : Action) → x.pc % 4 ≡ 0 → LeadsStraight a → pc_of x a % 4 ≡ 0
straight-pc x x1 s p = grind (arith, straight-next)

pub straight-action : (r : Reads) (c : Core) (h : ℕ) (x : Hart) → x.pc % 4 ≡ 0 → pc_of x (action_in r c h x) % 4 ≡ 0
straight-action r c h x s = straight-pc x (action_in r c h x) s (straight-runs_in r c h x s (module_at c x.domain).dead)
