-- A running hart's border and the action of its turn, row by row.
use Rattle.std.proofs.Common.{◌≡◌, ◌≢◌, ℕ, ◌-◌, ◌/◌, ◌%◌, ◌≤◌, Bool, true, false, not, ◌==◌, List, [], ◌∷◌, length, refl, sym, ◌∙◌, arith}
use Rattle.std.proofs.Common.{eqb-true, if◌then◌else◌, Option, Some, None}
use Rattle.std.specs.List.{last_or}
use Rattle.std.specs.Option.{option_map_or}
use Rattle.std.proofs.lemmas.Bool.{eqb-false, leb-true}
use Rattle.mx_words.specs.declared.perm.Access.TheVariants as A
use Rattle.mx_words.specs.Ranges.{ram_base}
use Rattle.mx_isa.specs.declared.inst.Inst.{Inst}
use Rattle.mx_model.specs.declared.values.Frame.{Frame}
use Rattle.mx_model.specs.Agreement.{Border, Trap, AtGate, Back, Call, Nothing, border_in, border_of_effect, border_of_fetch}
use Rattle.mx_model.specs.Agreement.{border_of_gate, border_of_word, target_at}
use Rattle.mx_model.specs.Effect.{Effect, Goes, Faults, Loads, Stores, Calls, Jumps, effect, next, reg, written}
use Rattle.mx_model.specs.Gates.{most_frames, top}
use Rattle.mx_model.specs.Reads.{Reads}
use Rattle.mx_model.specs.State.{Core, Hart, hart_at, module_at}
use Rattle.mx_model.specs.Turn.{Action, Asks, Traps, Bounces, Crosses, Returns, Runs, Writes, Decided, at_gate, at_return, by_effect}
use Rattle.mx_model.specs.Turn.{by_word, call_gate_at, call_of, fetches, is_denied, is_return_at, jump_action, returned_over, runs_at}
use Rattle.mx_model.specs.Turn.{runs_in}
use Rattle.mx_model.proofs.GatesAt.{called_domain, call-gate-at, target_from}
use Rattle.mx_model.proofs.TurnCases.{hart-hears, ready}
use Rattle.mx_laws.specs.Twins.{IsRunning}
use Rattle.mx_runs.specs.Borders.{IsGateCause}
use Rattle.mx_runs.proofs.TrapLaws.{Does, HasOwnCause, cause-effect, does-looked}

-- what a hart does at a call gate to a target, dead or not, at a return gate, and by an instruction without a border
pub data Passes (dead : Bool) (x : Hart) (target : ℕ) (a : Action) : Type 0 where
  ByCrooked : a ≡ Traps 19 (reg x.regs 1) → reg x.regs 1 % 4 ≢ 0 → Passes dead x target a
  ByDead : a ≡ Bounces → dead ≡ true → Passes dead x target a
  ByFull : a ≡ Traps 16 x.pc → most_frames ≤ length x.frames → Passes dead x target a
  Through : a ≡ Crosses target → Passes dead x target a

pub data Leaves (x : Hart) (target : ℕ) (a : Action) : Type 0 where
  ByNone : a ≡ Traps 18 target → x.frames ≡ [] → Leaves x target a
  ByOther : (f : Frame) → a ≡ Traps 17 target → top x.frames ≡ Some f → f.back ≢ target → Leaves x target a
  Over : (rd : ℕ) (f : Frame) → a ≡ Returns rd f → top x.frames ≡ Some f → f.back ≡ target → Leaves x target a

pub data GoesOn (a : Action) : Type 0 where
  ByRun : (regs : List ℕ) (pc : ℕ) → a ≡ Runs regs pc → GoesOn a
  ByWrite : (address size value : ℕ) → a ≡ Writes address size value → GoesOn a

-- a border and an action of hart x of one row
pub record MeetsGate (c : Core) (x : Hart) (word target x1 : ℕ) (a : Action) : Type 0 where
  pub place : (x.pc - ram_base) / 4 ≡ word
  pub leads : target_at c x.domain word ≡ Some target
  pub address : reg x.regs 1 ≡ x1
  pub passes : Passes (module_at c target).dead x target a

pub record MeetsCall (h : ℕ) (x : Hart) (number a0 a1 a2 a3 : ℕ) (a : Action) : Type 0 where
  pub x17 : reg x.regs 17 ≡ number
  pub x10 : reg x.regs 10 ≡ a0
  pub x11 : reg x.regs 11 ≡ a1
  pub x12 : reg x.regs 12 ≡ a2
  pub x13 : reg x.regs 13 ≡ a3
  pub asks : a ≡ Asks (call_of h x)

abbrev pub Meets : Core → ℕ → Hart → Border → Action → Type 0
Meets c h x (Trap cause value) a = (a ≡ Traps cause value) × (IsGateCause cause → ⊥)
Meets c h x (AtGate word target x1) a = MeetsGate c x word target x1 a
Meets c h x (Back pc target) a = (x.pc ≡ pc) × Leaves x target a
Meets c h x (Call number a0 a1 a2 a3) a = MeetsCall h x number a0 a1 a2 a3 a
Meets c h x Nothing a = GoesOn a

-- a call gate leads to its target
gate-leads : (d target : ℕ) (o : Option ℕ) → called_domain d o ≡ Some target → o ≡ Some target
gate-leads d target None e = absurd (let q : ⊥ = cc in q)
gate-leads d target (Some t) e = by (t == d) e
  where
    by : (b : Bool) → (if b then None else Some t) ≡ Some target → Some t ≡ Some target
    by true f = absurd (let q : ⊥ = cc in q)
    by false f = f

word-leads : (c : Core) (d pc target : ℕ) (b : Bool) →
    option_map_or (target_at c d) (if b then Some ((pc - ram_base) / 4) else None) None ≡ Some target →
    target_at c d ((pc - ram_base) / 4) ≡ Some target
word-leads c d pc target x e = grind arith

not-holds : (b : Bool) → not b ≡ true → b ≡ false
not-holds x e = grind arith

passes-choice : (dead : Bool) (x : Hart) (target : ℕ) (b : Bool) (d e : Decided) →
    (b ≡ true → Passes dead x target d.action) → (b ≡ false → Passes dead x target e.action) →
    Passes dead x target (if b then d else e).action
passes-choice dead x target x1 d e p q = grind arith

passes-gate : (c : Core) (x : Hart) (target : ℕ) → Passes (module_at c target).dead x target (at_gate c x target).action
passes-gate c x target = search (arith, x.regs, passes-choice, eqb-false, not-holds, leb-true)

-- frames without a top one
no-last : (f : Frame) (fs : List Frame) → last_or (Some f) fs ≡ None → ⊥
no-last f [] e = cc
no-last f (g ∷ gs) e = no-last g gs e

no-top : (fs : List Frame) → top fs ≡ None → fs ≡ []
no-top [] e = refl
no-top (f ∷ fs) e = absurd (no-last f fs e)

leaves-over : (x : Hart) (rd target : ℕ) (f : Frame) (b : Bool) → (f.back == target) ≡ b → top x.frames ≡ Some f →
    Leaves x target (if b then Returns rd f else Traps 17 target)
leaves-over x rd target f true e t = Over rd f refl t (eqb-true f.back target e)
leaves-over x rd target f false e t = ByOther f refl t (eqb-false f.back target e)

leaves-top : (x : Hart) (rd target : ℕ) (o : Option Frame) → top x.frames ≡ o →
    Leaves x target (option_map_or (returned_over rd target) o (Traps 18 target))
leaves-top x rd target None t = ByNone refl (no-top x.frames t)
leaves-top x rd target (Some f) t = leaves-over x rd target f (f.back == target) refl t

-- causes beside those of gates
low-cause : (cause : ℕ) → cause ≤ 7 → IsGateCause cause → ⊥
low-cause cause l g = (omega (arith, l))

high-cause : IsGateCause 20 → ⊥
high-cause g = (omega arith)

-- the walk over border and action; the state of the action differs in the number of turns, harts and caches
module _ (r : Reads) (c : Core) (h : ℕ) (x : Hart) where
  abbrev pub M : Border → Action → Type 0
  M = Meets c h x

  abbrev pub now : Core
  now = ready c h

  meets-denied : (cause value : ℕ) → cause ≤ 7 → (a : Action) → GoesOn a → (b : Bool) →
      M (if b then Trap cause value else Nothing) (if b then Traps cause value else a)
  meets-denied cause value l a g true = (refl, low-cause cause l)
  meets-denied cause value l a g false = g

  meets-target : (rd target : ℕ) (b : Bool) →
      M (if b then Nothing else Trap 0 target)
      (if b then Runs (written x.regs rd (next x.pc)) target else Traps 0 target)
  meets-target rd target true = ByRun (written x.regs rd (next x.pc)) target refl
  meets-target rd target false = (refl, low-cause 0 (omega arith))

  meets-jump : (rd target : ℕ) (b : Bool) →
      M (if b then Back x.pc target else if target % 4 == 0 then Nothing else Trap 0 target)
      (if b then at_return x rd target else jump_action x rd target)
  meets-jump rd target true = (refl, leaves-top x rd target (top x.frames) refl)
  meets-jump rd target false = meets-target rd target (target % 4 == 0)

  meets-effect : (f : Effect) → HasOwnCause f → M (border_of_effect r c x f) (by_effect r now h x f).action
  meets-effect (Goes regs pc) k = ByRun regs pc refl
  meets-effect (Faults cause value) k = (refl, low-cause cause (omega arith))
  meets-effect (Loads place address width rd) k =
      meets-denied 5 address (omega arith) _ (ByRun _ (next x.pc) refl) (is_denied r c x.domain address A.Read)
  meets-effect (Stores place address size value) k =
      meets-denied 7 address (omega arith) _ (ByWrite address size value refl) (is_denied r c x.domain address A.Write)
  meets-effect Calls k = record { x17 = refl; x10 = refl; x11 = refl; x12 = refl; x13 = refl; asks = refl }
  meets-effect (Jumps rd target) k = meets-jump rd target (is_return_at c x.domain x.pc)

  meets-word : (word : ℕ) (o : Option Inst) → M (border_of_word r c x word o) (by_word r now h x word o).action
  meets-word word None = (refl, low-cause 2 (omega arith))
  meets-word word (Some inst) = meets-effect (effect inst x.regs x.pc) (cause-effect inst x.regs x.pc)

  meets-fetch : (b : Bool) → M (border_of_fetch r c x b) (fetches r now h x b).action
  meets-fetch x = grind (arith, low-cause, meets-word)

  meets-gate : (o : Option ℕ) → call_gate_at c x.domain x.pc ≡ o →
      M (border_of_gate r c x o) (runs_at r now h x o).action
  meets-gate (Some target) e = record {
    place = refl;
    leads = word-leads c x.domain x.pc target _
        (gate-leads x.domain target (target_from c x.domain x.pc) (sym (call-gate-at c x.domain x.pc) ∙ e));
    address = refl;
    passes = passes-gate now x target;
  }
  meets-gate None e = meets-fetch (is_denied r c x.domain x.pc A.Execute)

  pub meets-in : (b : Bool) → M (border_in r c x b) (runs_in r now h x b).action
  meets-in x = grind (arith, high-cause, meets-gate)

-- a running hart's turn does the action that is decided
pub does-running : (r : Reads) (c : Core) (h : ℕ) → IsRunning c h →
    let x = hart_at c h in Does r c h (runs_in r (ready c h) h x (module_at c x.domain).dead).action
does-running r c h run = search (arith, ready, does-looked, hart-hears)
