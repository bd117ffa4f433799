-- An action that stores does so at the word that the instruction at its hart's pc names.
use Rattle.std.proofs.Common.{◌≡◌, ℕ, ◌%◌, Bool, true, false, not, cond, ◌==◌, ◌||◌, nat_le, List, length, refl, Option, Some, None}
use Rattle.std.specs.Option.{option_map_or}
use Rattle.mx_words.specs.declared.perm.Access.TheVariants as A
use Rattle.mx_words.specs.FirstFit.{Area}
use Rattle.mx_words.specs.Caches.{Cache}
use Rattle.mx_isa.specs.declared.inst.Inst.{Inst}
use Rattle.mx_isa.specs.declared.inst.Inst.TheVariants.{Lui, Auipc, Jal, Jalr, Branch, Load, Store, OpImm, Op, Fence, Ecall, Ebreak}
use Rattle.mx_isa.specs.Table.{decoded}
use Rattle.mx_model.specs.declared.values.Frame.{Frame}
use Rattle.mx_model.specs.Checks.{is_halted, is_ready}
use Rattle.mx_model.specs.Effect.{Effect, Goes, Faults, Loads, Stores, Jumps, effect, holds, load_size, next, plus, reg, store_size, taken}
use Rattle.mx_model.specs.Effect.{written}
use Rattle.mx_model.specs.Gates.{most_frames, top}
use Rattle.mx_model.specs.Reads.{Reads}
use Rattle.mx_model.specs.State.{Core, Hart, Status, Running, Waiting, Halted, hart_at, module_at}
use Rattle.mx_model.specs.Turn.{Action, Waits, Serves, Traps, Bounces, Crosses, Returns, Runs, Writes, Decided, at_gate, at_return}
use Rattle.mx_model.specs.Turn.{by_effect, by_status, by_word, call_gate_at, fetches, is_denied, is_return_at, jump_action, load_at}
use Rattle.mx_model.specs.Turn.{returned_over, runs_at, runs_in, traps, without_look}
use Rattle.mx_laws.proofs.TurnParts.{apart}
use Rattle.mx_touched.specs.Touched.{no_words, stored_at, stored_by, word_area}

-- an action stores nowhere but at the word that an area is
abbrev pub StoresIn : Area → ℕ → Action → Type 0
StoresIn area size (Writes address n value) = area ≡ word_area address size
StoresIn area size action = Unit {0}

action-choice : (area : Area) (size : ℕ) (b : Bool) (a d : Action) → StoresIn area size a → StoresIn area size d →
    StoresIn area size (cond b a d)
action-choice area size true a d p q = p
action-choice area size false a d p q = q

decided-choice : (area : Area) (size : ℕ) (b : Bool) (a d : Decided) → StoresIn area size a.action →
    StoresIn area size d.action → StoresIn area size (cond b a d).action
decided-choice area size true a d p q = p
decided-choice area size false a d p q = q

-- gates
stores-at_gate : (area : Area) (c : Core) (x : Hart) (target : ℕ) → StoresIn area c.size (at_gate c x target).action
stores-at_gate area c x target =
    decided-choice area c.size (not (reg x.regs 1 % 4 == 0)) (traps 19 (reg x.regs 1)) _ tt
    (decided-choice area c.size (module_at c target).dead (without_look Bounces) _ tt
    (decided-choice area c.size (nat_le most_frames (length x.frames)) (traps 16 x.pc) (without_look (Crosses target)) tt tt))

stores-top : (area : Area) (size rd target : ℕ) (o : Option Frame) →
    StoresIn area size (option_map_or (returned_over rd target) o (Traps 18 target))
stores-top area size rd target None = tt
stores-top area size rd target (Some frame) =
    action-choice area size (frame.back == target) (Returns rd frame) (Traps 17 target) tt tt

module _ (r : Reads) (c : Core) (h : ℕ) (x : Hart) where
  effect-choice : (area : Area) (b : Bool) (e f : Effect) → StoresIn area c.size (by_effect r c h x e).action →
      StoresIn area c.size (by_effect r c h x f).action → StoresIn area c.size (by_effect r c h x (cond b e f)).action
  effect-choice area true e f p q = p
  effect-choice area false e f p q = q

  stores-jump : (area : Area) (rd target : ℕ) → StoresIn area c.size (by_effect r c h x (Jumps rd target)).action
  stores-jump area rd target =
      action-choice area c.size (is_return_at c x.domain x.pc) (at_return x rd target) (jump_action x rd target)
      (stores-top area c.size rd target (top x.frames))
      (action-choice area c.size (target % 4 == 0) (Runs (written x.regs rd (next x.pc)) target) (Traps 0 target) tt tt)

  stores-effect : (inst : Inst) → StoresIn (stored_by c x inst) c.size (by_effect r c h x (effect inst x.regs x.pc)).action
  unfolding effect
  stores-effect (Lui rd imm) = tt
  stores-effect (Auipc rd imm) = tt
  stores-effect (Jal rd imm) = stores-jump no_words rd (plus x.pc imm)
  stores-effect (Jalr rd rs1 imm) = stores-jump no_words rd _
  stores-effect (Branch k rs1 rs2 imm) =
      effect-choice no_words (holds k (reg x.regs rs1) (reg x.regs rs2)) (taken x.regs (plus x.pc imm)) (Goes x.regs (next x.pc))
      (effect-choice no_words (plus x.pc imm % 4 == 0) (Goes x.regs (plus x.pc imm)) (Faults 0 (plus x.pc imm)) tt tt) tt
  stores-effect (Load width rd rs1 imm) =
      let address = plus (reg x.regs rs1) imm in
      effect-choice no_words (address % load_size width == 0) (Loads rs1 address width rd) (Faults 4 address)
      (action-choice no_words c.size (is_denied r c x.domain address A.Read) (Traps 5 address) _ tt tt) tt
  stores-effect (Store width rs1 rs2 imm) =
      let address = plus (reg x.regs rs1) imm in
      let size = store_size width in
      let value = reg x.regs rs2 in
      let area = word_area address c.size in
      effect-choice area (address % size == 0) (Stores rs1 address size value) (Faults 6 address)
      (action-choice area c.size (is_denied r c x.domain address A.Write) (Traps 7 address) (Writes address size value) tt refl) tt
  stores-effect (OpImm op rd rs1 imm) = tt
  stores-effect (Op op rd rs1 rs2) = tt
  stores-effect (Fence fields) = tt
  stores-effect Ecall = tt
  stores-effect Ebreak = tt

  abbrev area_of : Option Inst → Area
  area_of o = option_map_or (stored_by c x) o no_words

  stores-word : (word : ℕ) (o : Option Inst) → StoresIn (area_of o) c.size (by_word r c h x word o).action
  stores-word word None = tt
  stores-word word (Some inst) = stores-effect inst

  stores-fetch : (b : Bool) →
      StoresIn (area_of (cond b None (decoded (load_at c x.pc 4)))) c.size (fetches r c h x b).action
  stores-fetch true = tt
  stores-fetch false = stores-word (load_at c x.pc 4) (decoded (load_at c x.pc 4))

  abbrev told : Area
  told = area_of (cond (is_denied r c x.domain x.pc A.Execute) None (decoded (load_at c x.pc 4)))

  stores-gate : (o : Option ℕ) → StoresIn told c.size (runs_at r c h x o).action
  stores-gate (Some target) = stores-at_gate told c x target
  stores-gate None = stores-fetch (is_denied r c x.domain x.pc A.Execute)

  stores-in : (b : Bool) → StoresIn told c.size (runs_in r c h x b).action
  stores-in true = tt
  stores-in false = stores-gate (call_gate_at c x.domain x.pc)

  abbrev told_by : Status → Area
  told_by s =
      area_of (cond (is_halted s || is_denied r c x.domain x.pc A.Execute) None (decoded (load_at c x.pc 4)))

  -- in a state with other harts, caches and another number of turns
  stores-status : (turns : ℕ) (harts : List Hart) (caches : List Cache) (s : Status) →
      StoresIn (told_by s) c.size (by_status r (apart c turns harts caches) h x s).action
  stores-status turns harts caches Running = stores-in (module_at c x.domain).dead
  stores-status turns harts caches (Waiting call heard) =
      action-choice (told_by (Waiting call heard)) c.size (is_ready (apart c turns harts caches) h heard) (Serves call) Waits tt tt
  stores-status turns harts caches (Halted code) = tt

pub stores-decided : (r : Reads) (c : Core) (h turns : ℕ) (harts : List Hart) (caches : List Cache) →
    StoresIn (stored_at r c h) c.size (by_status r (apart c turns harts caches) h (hart_at c h) (hart_at c h).status).action
stores-decided r c h turns harts caches = stores-status r c h (hart_at c h) turns harts caches (hart_at c h).status
