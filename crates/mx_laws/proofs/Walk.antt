-- What a running hart meets and does, by the cases of its turn: one walk over border and action, in two states at once whose readings are
-- the
-- same. With one state twice it is a walk over one.
use Rattle.std.proofs.Common.{◌≡◌, ℕ, ◌-◌, ◌/◌, ◌%◌, Bool, true, false, not, cond, ◌==◌, nat_le, List, length, refl, subst, if◌then◌else◌}
use Rattle.std.proofs.Common.{Option, Some, None}
use Rattle.mx_words.specs.declared.perm.Access.{Access}
use Rattle.mx_words.specs.declared.perm.Access.TheVariants as A
use Rattle.mx_words.specs.Bytes.{IsSize}
use Rattle.mx_words.specs.Ranges.{ram_base}
use Rattle.mx_isa.specs.declared.inst.Inst.{Inst}
use Rattle.mx_isa.specs.declared.inst.LoadWidth.{LoadWidth}
use Rattle.mx_isa.specs.Table.{decoded}
use Rattle.mx_model.specs.declared.values.Frame.{Frame}
use Rattle.mx_model.specs.Agreement.{Border, Trap, AtGate, Back, Call, Nothing, border_of_effect, border_of_word, border_of_fetch}
use Rattle.mx_model.specs.Agreement.{border_of_gate, border_in}
use Rattle.mx_model.specs.Effect.{Effect, Goes, Faults, Loads, Stores, Calls, Jumps, effect, reg, written, next, load_size, loaded}
use Rattle.mx_model.specs.Gates.{top, most_frames}
use Rattle.mx_model.specs.Reads.{Reads}
use Rattle.mx_model.specs.State.{Core, Hart, Status, module_at}
use Rattle.mx_model.specs.Turn.{Action, Asks, Traps, Bounces, Crosses, Returns, Runs, Writes, Decided, without_look, traps, is_denied}
use Rattle.mx_model.specs.Turn.{call_gate_at, is_return_at, load_at, at_gate, returned_over, at_return, call_of, jump_action, by_effect}
use Rattle.mx_model.specs.Turn.{by_word, fetches, runs_at, runs_in}
use Rattle.mx_model.proofs.AlignedLaws.{IsAligned, aligned-effect}
use Rattle.std.specs.Option.{option_map_or}

-- hart x with other frames and another status
abbrev pub other : Hart → List Frame → Status → Hart
other x fs st = record x { frames = fs; status = st }

-- the readings on which the turn of hart x depends are the same in two states
pub record SameReadings (r : Reads) (c : Core) (q : Reads) (e : Core) (x : Hart) : Type 0 where
  pub dead : (module_at c x.domain).dead ≡ (module_at e x.domain).dead
  pub gate : call_gate_at c x.domain x.pc ≡ call_gate_at e x.domain x.pc
  pub back : is_return_at c x.domain x.pc ≡ is_return_at e x.domain x.pc
  pub denied : (address : ℕ) (access : Access) → is_denied r c x.domain address access ≡ is_denied q e x.domain address access
  pub fetch : is_denied r c x.domain x.pc A.Execute ≡ false → load_at c x.pc 4 ≡ load_at e x.pc 4
  pub load : (address : ℕ) (width : LoadWidth) → address % load_size width ≡ 0 → is_denied r c x.domain address A.Read ≡ false →
      load_at c address (load_size width) ≡ load_at e address (load_size width)

pub same-self : (r : Reads) (c : Core) (x : Hart) → SameReadings r c r c x
same-self r c x = record {
  dead = refl;
  gate = refl;
  back = refl;
  denied = λ address access. refl;
  fetch = λ e. refl;
  load = λ address width a e. refl;
}

-- what a hart does at a call gate, and at a return gate
pub data IsPassing : Action → Type 0 where
  Stopped : (cause value : ℕ) → IsPassing (Traps cause value)
  SentBack : IsPassing Bounces
  Passed : (target : ℕ) → IsPassing (Crosses target)

pub data IsReturning (x : Hart) : Action → Type 0 where
  Refused : (cause value : ℕ) → IsReturning x (Traps cause value)
  Returned : (rd : ℕ) (frame : Frame) → top x.frames ≡ Some frame → IsReturning x (Returns rd frame)

passing-choice : (b : Bool) (d e : Decided) → IsPassing d.action → IsPassing e.action → IsPassing (if b then d else e).action
passing-choice true d e p q = p
passing-choice false d e p q = q

passing-at_gate : (c : Core) (x : Hart) (target : ℕ) → IsPassing (at_gate c x target).action
passing-at_gate c x target =
    let x1 = reg x.regs 1 in
    passing-choice (not (x1 % 4 == 0)) (traps 19 x1) _ (Stopped 19 x1) (
    passing-choice (module_at c target).dead (without_look Bounces) _ SentBack (
    passing-choice (nat_le most_frames (length x.frames)) (traps 16 x.pc) (without_look (Crosses target)) (Stopped 16 x.pc)
    (Passed target)))

returning-over : (x : Hart) (rd target : ℕ) (frame : Frame) → top x.frames ≡ Some frame → IsReturning x (returned_over rd target frame)
returning-over x rd target frame p = elim (frame.back == target) as (λ b. IsReturning x (cond b (Returns rd frame) (Traps 17 target))) [
  | true ↦ Returned rd frame p
  | false ↦ Refused 17 target
]

returning-top : (x : Hart) (rd target : ℕ) (o : Option Frame) → top x.frames ≡ o
    → IsReturning x (option_map_or (returned_over rd target) o (Traps 18 target))
returning-top x rd target None p = Refused 18 target
returning-top x rd target (Some frame) p = returning-over x rd target frame p

returning-at_return : (x : Hart) (rd target : ℕ) → IsReturning x (at_return x rd target)
returning-at_return x rd target = returning-top x rd target (top x.frames) refl

-- what is to be shown of each leaf of the walk: of the border and the action of hart x in one state, and of the same hart with other frames
-- and
-- another status in the other
pub record Leaves (r : Reads) (c : Core) (h : ℕ) (x : Hart) (fs : List Frame) (st : Status) (P : Border → Action → Border → Action
    → Type 0) : Type 0 where
  pub trap : (cause value : ℕ) → P (Trap cause value) (Traps cause value) (Trap cause value) (Traps cause value)
  pub gate : (word target x1 : ℕ) (a b : Action) → IsPassing a → IsPassing b → P (AtGate word target x1) a (AtGate word target x1) b
  pub back : (target : ℕ) (a b : Action) → IsReturning x a → IsReturning (other x fs st) b → P (Back x.pc target) a (Back x.pc target) b
  pub call : let k : Border = Call (reg x.regs 17) (reg x.regs 10) (reg x.regs 11) (reg x.regs 12) (reg x.regs 13) in
      P k (Asks (call_of h x)) k (Asks (call_of h (other x fs st)))
  pub run : (regs : List ℕ) (pc : ℕ) → P Nothing (Runs regs pc) Nothing (Runs regs pc)
  pub write : (address size value : ℕ) → IsSize size → address % size ≡ 0 → is_denied r c x.domain address A.Write ≡ false →
      P Nothing (Writes address size value) Nothing (Writes address size value)

module _ (r : Reads) (c : Core) (q : Reads) (e : Core) (h : ℕ) (x : Hart) (fs : List Frame) (st : Status)
    (P : Border → Action → Border → Action → Type 0) (s : SameReadings r c q e x) (k : Leaves r c h x fs st P) where
  walk-load : (address : ℕ) (width : LoadWidth) (rd : ℕ) → address % load_size width ≡ 0 → (b : Bool)
      → is_denied r c x.domain address A.Read ≡ b →
      P (if b then Trap 5 address else Nothing)
      (if b then Traps 5 address else Runs (written x.regs rd (loaded width (load_at c address (load_size width)))) (next x.pc))
      (if b then Trap 5 address else Nothing)
      (if b then Traps 5 address else Runs (written x.regs rd (loaded width (load_at e address (load_size width)))) (next x.pc))
  walk-load address width rd a true t = k.trap 5 address
  walk-load address width rd a false t =
      let old = load_at c address (load_size width) in
      subst (λ (v : ℕ). P Nothing (Runs (written x.regs rd (loaded width old)) (next x.pc)) Nothing
      (Runs (written x.regs rd (loaded width v)) (next x.pc)))
      (s.load address width a t) (k.run (written x.regs rd (loaded width old)) (next x.pc))

  walk-store : (address size value : ℕ) → IsSize size → address % size ≡ 0 → (b : Bool) → is_denied r c x.domain address A.Write ≡ b →
      P (if b then Trap 7 address else Nothing) (if b then Traps 7 address else Writes address size value)
      (if b then Trap 7 address else Nothing) (if b then Traps 7 address else Writes address size value)
  walk-store address size value i a true t = k.trap 7 address
  walk-store address size value i a false t = k.write address size value i a t

  walk-target : (rd target : ℕ) (b : Bool) →
      P (if b then Nothing else Trap 0 target) (if b then Runs (written x.regs rd (next x.pc)) target else Traps 0 target)
      (if b then Nothing else Trap 0 target) (if b then Runs (written x.regs rd (next x.pc)) target else Traps 0 target)
  walk-target rd target true = k.run (written x.regs rd (next x.pc)) target
  walk-target rd target false = k.trap 0 target

  walk-jump : (rd target : ℕ) (b : Bool) →
      P (if b then Back x.pc target else if target % 4 == 0 then Nothing else Trap 0 target)
      (if b then at_return x rd target else jump_action x rd target)
      (if b then Back x.pc target else if target % 4 == 0 then Nothing else Trap 0 target)
      (if b then at_return (other x fs st) rd target else jump_action (other x fs st) rd target)
  walk-jump rd target true =
      k.back target (at_return x rd target) (at_return (other x fs st) rd target) (returning-at_return x rd target)
      (returning-at_return (other x fs st) rd target)
  walk-jump rd target false = walk-target rd target (target % 4 == 0)

  walk-effect : (f : Effect) → IsAligned f →
      P (border_of_effect r c x f) (by_effect r c h x f).action (border_of_effect q e (other x fs st) f)
      (by_effect q e h (other x fs st) f).action
  walk-effect (Goes regs pc) a = k.run regs pc
  walk-effect (Faults cause value) a = k.trap cause value
  walk-effect (Loads p address width rd) a =
      subst (λ (b : Bool). P (border_of_effect r c x (Loads p address width rd)) (by_effect r c h x (Loads p address width rd)).action
      (if b then Trap 5 address else Nothing)
      (if b then Traps 5 address else Runs (written x.regs rd (loaded width (load_at e address (load_size width)))) (next x.pc)))
      (s.denied address A.Read) (walk-load address width rd a (is_denied r c x.domain address A.Read) refl)
  walk-effect (Stores p address size value) a =
      subst (λ (b : Bool). P (border_of_effect r c x (Stores p address size value)) (by_effect r c h x (Stores p address size value)).action
      (if b then Trap 7 address else Nothing) (if b then Traps 7 address else Writes address size value))
      (s.denied address A.Write) (walk-store address size value a.0 a.1 (is_denied r c x.domain address A.Write) refl)
  walk-effect Calls a = k.call
  walk-effect (Jumps rd target) a =
      subst (λ (b : Bool). P (border_of_effect r c x (Jumps rd target)) (by_effect r c h x (Jumps rd target)).action
      (if b then Back x.pc target else if target % 4 == 0 then Nothing else Trap 0 target)
      (if b then at_return (other x fs st) rd target else jump_action (other x fs st) rd target))
      s.back (walk-jump rd target (is_return_at c x.domain x.pc))

  walk-word : (word : ℕ) (o : Option Inst) →
      P (border_of_word r c x word o) (by_word r c h x word o).action (border_of_word q e (other x fs st) word o)
      (by_word q e h (other x fs st) word o).action
  walk-word word None = k.trap 2 word
  walk-word word (Some inst) = walk-effect (effect inst x.regs x.pc) (aligned-effect inst x.regs x.pc)

  walk-fetch : (b : Bool) → is_denied r c x.domain x.pc A.Execute ≡ b →
      P (border_of_fetch r c x b) (fetches r c h x b).action (border_of_fetch q e (other x fs st) b)
      (fetches q e h (other x fs st) b).action
  walk-fetch true t = k.trap 1 x.pc
  walk-fetch false t =
      let old = load_at c x.pc 4 in
      subst (λ (v : ℕ). P (border_of_word r c x old (decoded old)) (by_word r c h x old (decoded old)).action
      (border_of_word q e (other x fs st) v (decoded v)) (by_word q e h (other x fs st) v (decoded v)).action)
      (s.fetch t) (walk-word old (decoded old))

  walk-gate : (o : Option ℕ) →
      P (border_of_gate r c x o) (runs_at r c h x o).action (border_of_gate q e (other x fs st) o) (runs_at q e h (other x fs st) o).action
  walk-gate (Some target) =
      k.gate ((x.pc - ram_base) / 4) target (reg x.regs 1) (at_gate c x target).action (at_gate e (other x fs st) target).action
      (passing-at_gate c x target) (passing-at_gate e (other x fs st) target)
  walk-gate None =
      let old = is_denied r c x.domain x.pc A.Execute in
      subst (λ (b : Bool). P (border_of_fetch r c x old) (fetches r c h x old).action
      (border_of_fetch q e (other x fs st) b) (fetches q e h (other x fs st) b).action)
      (s.denied x.pc A.Execute) (walk-fetch old refl)

  walk-in : (b : Bool) →
      P (border_in r c x b) (runs_in r c h x b).action (border_in q e (other x fs st) b) (runs_in q e h (other x fs st) b).action
  walk-in true = k.trap 20 x.pc
  walk-in false =
      let old = call_gate_at c x.domain x.pc in
      subst (λ (o : Option ℕ). P (border_of_gate r c x old) (runs_at r c h x old).action
      (border_of_gate q e (other x fs st) o) (runs_at q e h (other x fs st) o).action)
      s.gate (walk-gate old)

  -- the walk
  pub walk :
      P (border_in r c x (module_at c x.domain).dead) (runs_in r c h x (module_at c x.domain).dead).action
      (border_in q e (other x fs st) (module_at e x.domain).dead) (runs_in q e h (other x fs st) (module_at e x.domain).dead).action
  walk =
      let old = (module_at c x.domain).dead in
      subst (λ (b : Bool). P (border_in r c x old) (runs_in r c h x old).action (border_in q e (other x fs st) b)
      (runs_in q e h (other x fs st) b).action)
      s.dead (walk-in old)
