-- What a hart decides in a valid state is valid.
use Rattle.std.proofs.Common.{◌≡◌, ℕ, ◌^◌, ◌<◌, Bool, true, false, cond, ◌==◌, List, length, refl, lit<, if◌then◌else◌, Option, Some, None}
use Rattle.std.proofs.Common.{arith}
use Rattle.std.specs.Prelude.{IfSome}
use Rattle.std.specs.Option.{option_map_or}
use Rattle.std.proofs.lemmas.Bool.{leb-false, not-false}
use Rattle.mx_words.specs.declared.perm.Access.TheVariants as A
use Rattle.mx_words.specs.Bytes.{number_at}
use Rattle.mx_isa.specs.declared.inst.Inst.{Inst}
use Rattle.mx_isa.specs.declared.inst.LoadWidth.{LoadWidth}
use Rattle.mx_isa.specs.declared.inst.LoadWidth.TheVariants.{Lb, Lh, Lw, Lbu, Lhu}
use Rattle.mx_isa.proofs.OfDecoded.{Fits, decoded-fits}
use Rattle.mx_model.specs.declared.values.Frame.{Frame}
use Rattle.mx_model.specs.declared.values.Gate.{Gate}
use Rattle.mx_model.specs.Effect.{Effect, Goes, Faults, Loads, Stores, Calls, Jumps, effect, reg, load_size}
use Rattle.mx_model.specs.Gates.{call_gate, call_target, gate_at, is_at, most_frames, top}
use Rattle.mx_model.specs.Reads.{Reads}
use Rattle.mx_model.specs.State.{Core, Hart, Status, hart_at}
use Rattle.mx_model.specs.Turn.{Action, Rests, Waits, Serves, Asks, Traps, Bounces, Crosses, Returns, Runs, Writes}
use Rattle.mx_model.specs.Valid.{IsModule, IsPc, IsRegisters, IsFrame, IsCall, IsStatus, IsHart, IsGate, IsValid}
use Rattle.mx_model.proofs.ListLaws.{all-find, all-last, number-one, number-two, number-four}
use Rattle.mx_model.proofs.RegisterLaws.{registers-written, small-loaded, pc-next, IsCause, IsEffect, effect-valid, small-plus}
use Rattle.mx_model.specs.Turn.{Decided, is_denied, at_gate, returned_over, at_return, call_of, jump_action, by_effect, by_word, fetches}
use Rattle.mx_model.specs.Turn.{runs_at, runs_in, by_status, decide}
use Rattle.mx_model.proofs.ValidParts.{AreBytes}

-- what each action needs to keep hart h valid
abbrev pub IsAction : ℕ → ℕ → Hart → Action → Type 0
IsAction modules h hart Rests = Unit {0}
IsAction modules h hart Waits = Unit {0}
IsAction modules h hart (Serves call) = IsCall modules h call
IsAction modules h hart (Asks call) = call ≡ call_of h hart
IsAction modules h hart (Traps cause value) = IsCause cause
IsAction modules h hart Bounces = IsPc (reg hart.regs 1)
IsAction modules h hart (Crosses target) = IsModule modules target × IsPc (reg hart.regs 1) × (length hart.frames < most_frames)
IsAction modules h hart (Returns rd frame) = IsFrame modules frame
IsAction modules h hart (Runs regs pc) = IsRegisters regs × IsPc pc
IsAction modules h hart (Writes address size value) = Unit {0}

-- whether a action leaves hart h as it is, where there may be no such hart
action-choice : (modules h : ℕ) (hart : Hart) (b : Bool) (d e : Action) → IsAction modules h hart d → IsAction modules h hart e
    → IsAction modules h hart (cond b d e)
action-choice modules h hart x d e p q = grind arith

decided-choice : (modules h : ℕ) (hart : Hart) (b : Bool) (d e : Decided) →
    (b ≡ true → IsAction modules h hart d.action) → (b ≡ false → IsAction modules h hart e.action)
    → IsAction modules h hart (if b then d else e).action
decided-choice modules h hart x d e p q = grind arith

-- at a gate
action-at_gate : (c : Core) (h : ℕ) (hart : Hart) (target : ℕ) → IsRegisters hart.regs → IsModule (length c.modules) target →
    IsAction (length c.modules) h hart (at_gate c hart target).action
action-at_gate c h hart target r t = search (arith, hart.regs, not-false, r.small, decided-choice, leb-false)

-- at a return gate
action-returned_over : (modules h : ℕ) (hart : Hart) (rd target : ℕ) (frame : Frame) → IsFrame modules frame
    → IsAction modules h hart (returned_over rd target frame)
action-returned_over modules h hart rd target frame p = action-choice modules h hart (frame.back == target) (Returns rd frame)
    (Traps 17 target) p (lit< tt)

action-over : (modules h : ℕ) (hart : Hart) (rd target : ℕ) (o : Option Frame) → IfSome o (IsFrame modules) →
    IsAction modules h hart (option_map_or (returned_over rd target) o (Traps 18 target))
action-over modules h hart rd target None p = lit< tt
action-over modules h hart rd target (Some frame) p = action-returned_over modules h hart rd target frame p

action-at_return : (modules harts h : ℕ) (hart : Hart) (rd target : ℕ) → IsHart modules harts h hart
    → IsAction modules h hart (at_return hart rd target)
action-at_return modules harts h hart rd target p = action-over modules h hart rd target (top hart.frames)
    (all-last (IsFrame modules) hart.frames None p.frames tt)

-- at a jump that isn't a return
action-jump : (modules harts h : ℕ) (hart : Hart) (rd target : ℕ) → IsHart modules harts h hart → target < 2 ^ 32
    → IsAction modules h hart (jump_action hart rd target)
action-jump modules harts h hart rd target p q =
    search (arith, IsAction, hart.regs, registers-written, p.regs, small-plus, hart.pc)

number-load : (ram : List ℕ) (k : ℕ) (width : LoadWidth) → AreBytes ram → number_at ram k (load_size width) < 256 ^ load_size width
number-load ram k Lb h = number-one ram k h
number-load ram k Lh h = number-two ram k h
number-load ram k Lw h = number-four ram k h
number-load ram k Lbu h = number-one ram k h
number-load ram k Lhu h = number-two ram k h

pub call-of : (modules harts h : ℕ) (hart : Hart) → IsHart modules harts h hart → IsCall modules h (call_of h hart)
call-of modules harts h hart p = search (arith, p.regs.small)

action-by_effect : (r : Reads) (c : Core) (h : ℕ) (hart : Hart) (e : Effect) → IsValid c → IsHart (length c.modules) (length c.harts) h hart
    → IsEffect e →
    IsAction (length c.modules) h hart (by_effect r c h hart e).action
action-by_effect r c h hart (Goes regs pc) v p q = q
action-by_effect r c h hart (Faults cause value) v p q = q
action-by_effect r c h hart (Loads a address width rd) v p q =
    search (arith, action-choice, hart.domain, hart.regs, registers-written, p.regs, small-loaded, number-load, c.ram, pc-next, hart.pc)
action-by_effect r c h hart (Stores a address size value) v p q = search (arith, action-choice, hart.domain)
action-by_effect r c h hart Calls v p q = refl
action-by_effect r c h hart (Jumps rd target) v p q = search (arith, action-choice, action-at_return, action-jump)

action-by_word : (r : Reads) (c : Core) (h : ℕ) (hart : Hart) (word : ℕ) (o : Option Inst) → IsValid c
    → IsHart (length c.modules) (length c.harts) h hart → IfSome o (Fits word) →
    IsAction (length c.modules) h hart (by_word r c h hart word o).action
action-by_word r c h hart word None v p q = lit< tt
action-by_word r c h hart word (Some inst) v p q =
    action-by_effect r c h hart (effect inst hart.regs hart.pc) v p (effect-valid inst hart.regs hart.pc q.valid p.regs p.pc)

action-fetches : (r : Reads) (c : Core) (h : ℕ) (hart : Hart) (b : Bool) → IsValid c → IsHart (length c.modules) (length c.harts) h hart →
    IsAction (length c.modules) h hart (fetches r c h hart b).action
action-fetches r c h hart x v p = grind (arith, number-four, action-by_word, decoded-fits)

action-runs_at : (r : Reads) (c : Core) (h : ℕ) (hart : Hart) (o : Option ℕ) → IsValid c
    → IsHart (length c.modules) (length c.harts) h hart →
    IfSome o (IsModule (length c.modules)) → IsAction (length c.modules) h hart (runs_at r c h hart o).action
action-runs_at r c h hart (Some target) v p q = action-at_gate c h hart target p.regs q
action-runs_at r c h hart None v p q = action-fetches r c h hart (is_denied r c hart.domain hart.pc A.Execute) v p

-- the target of a call gate is a module
target-module : (modules size : ℕ) (g : Gate) → IsGate modules size g → IfSome (call_target g) (IsModule modules)
target-module modules size g p = elim (g.target == g.domain) as (λ b. IfSome (cond b None (Some g.target)) (IsModule modules)) [
  | true ↦
      tt
  | false ↦ p.target
]

target-some : (modules size : ℕ) (o : Option Gate) → IfSome o (IsGate modules size)
    → IfSome (option_map_or call_target o None) (IsModule modules)
target-some modules size None p = tt
target-some modules size (Some g) p = target-module modules size g p

target-at : (c : Core) (d : ℕ) (o : Option ℕ) → IsValid c → IfSome (option_map_or (call_gate c.gates d) o None)
    (IsModule (length c.modules))
target-at c d None v = tt
target-at c d (Some w) v =
    target-some (length c.modules) c.size (gate_at c.gates d w) (all-find (IsGate (length c.modules) c.size) (is_at d w) c.gates v.gates)

action-runs_in : (r : Reads) (c : Core) (h : ℕ) (hart : Hart) (b : Bool) → IsValid c → IsHart (length c.modules) (length c.harts) h hart →
    IsAction (length c.modules) h hart (runs_in r c h hart b).action
action-runs_in r c h hart x v p = grind (arith, action-runs_at, target-at)

-- a hart that there is decides a valid action
action-by_status : (r : Reads) (c : Core) (h : ℕ) (hart : Hart) (s : Status) → IsValid c → IsHart (length c.modules) (length c.harts) h hart
    → IsStatus (length c.harts) h hart s →
    IsAction (length c.modules) h hart (by_status r c h hart s).action
action-by_status r c h hart x v p q = search (arith, action-choice, call-of, action-runs_in)

pub action-decide : (r : Reads) (c : Core) (h : ℕ) → IsValid c → h < length c.harts
    → IsAction (length c.modules) h (hart_at c h) (decide r c h).action
action-decide r c h v l = action-by_status r c h (hart_at c h) (hart_at c h).status v (v.harts h l) (v.harts h l).status
