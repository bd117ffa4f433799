-- The steps of one hart.
use Rattle.std.specs.Prelude.{◌≡◌, ℕ, Bool, false, List, [], ◌∷◌, ◌++◌, slice_set, Option, Some, None}
use Rattle.mx_words.specs.declared.perm.Perm.{Perm}
use Rattle.mx_words.specs.declared.perm.Access.{Access}
use Rattle.mx_isa.specs.declared.inst.Inst.{Inst}
use Rattle.mx_core.specs.Bus.{IsTouched}
use Rattle.mx_core.specs.Exec.{outcome_of, fetched, regs_after, bytes_after, fetch_touch, touches_of, HasCause}
use Rattle.mx_core.specs.declared.outcome.Outcome.{Outcome}
use Rattle.mx_core.specs.declared.outcome.Outcome.TheVariants as O
use Rattle.mx_model.specs.declared.values.Frame.{Frame}
use Rattle.mx_model.specs.Effect.{effect, next, written}
use Rattle.mx_model.specs.Gates.{below_top, top}
use Rattle.mx_model.specs.State.{Running}
use Rattle.mx_model.specs.Turn.{answered, fault_answer, restored}
use Rattle.mx_laws.specs.Crossing.{frame_of}
use Rattle.mx_machine.specs.declared.hart.Hart.{Hart}
use Rattle.mx_machine.specs.declared.hart.Progress.TheVariants as G
use Rattle.mx_machine.specs.Harts.{seen_with}

-- the registers that the instruction at its pc leaves, over a bus
abbrev pub regs_left : {B : Type 0} → (B → ℕ → Perm) → (B → List ℕ) → Bool → Hart → B → List ℕ
regs_left perm bytes returns x bus =
    regs_after (perm bus) (bytes bus) x.regs x.pc returns
    (fetched (perm bus) (bytes bus) x.regs x.pc)

-- the instruction at its pc answers, and leaves the bus
pub record Instructs {B : Type 0} (perm : B → ℕ → Perm) (bytes : B → List ℕ)
    (touches : B → ℕ → ℕ → Access → B → Type 0) (returns : Bool) (x : Hart) (old : B)
    (answer : Outcome) (new : B) : Type 0 where
  pub answered : answer
      ≡ outcome_of (perm old) x.pc returns (fetched (perm old) (bytes old) x.regs x.pc)
  pub left : bytes new
      ≡ bytes_after (perm old) (bytes old) (fetched (perm old) (bytes old) x.regs x.pc)
  pub touched : IsTouched touches old
      (fetch_touch x.pc ∷ touches_of (fetched (perm old) (bytes old) x.regs x.pc)) new
  pub caused : HasCause answer

-- the registers that an instruction leaves, whose word stands at its pc, over a bus
abbrev pub regs_carried : {B : Type 0} → (B → ℕ → Perm) → (B → List ℕ) → Inst → Hart → B → List ℕ
regs_carried perm bytes inst x bus =
    regs_after (perm bus) (bytes bus) x.regs x.pc false (effect inst x.regs x.pc)

-- such an instruction answers, and leaves the bus
pub record CarriesOut {B : Type 0} (perm : B → ℕ → Perm) (bytes : B → List ℕ)
    (touches : B → ℕ → ℕ → Access → B → Type 0) (inst : Inst) (x : Hart) (old : B)
    (answer : Outcome) (new : B) : Type 0 where
  pub answered : answer ≡ outcome_of (perm old) x.pc false (effect inst x.regs x.pc)
  pub left : bytes new ≡ bytes_after (perm old) (bytes old) (effect inst x.regs x.pc)
  pub touched : IsTouched touches old (touches_of (effect inst x.regs x.pc)) new
  pub caused : HasCause answer

-- an instruction leaves it these registers, and where it goes on another pc
abbrev pub pc_after : Outcome → ℕ → ℕ
pc_after (O.Next pc) old = pc
pc_after (O.Trap fault) old = old
pc_after O.Call old = old
pc_after (O.Back rd target) old = old

abbrev pub instructed : List ℕ → Outcome → Hart → Hart
instructed regs outcome x = record x { regs = regs; pc = pc_after outcome x.pc }

-- an answer but to go on
abbrev pub Stops : Outcome → Type 0
Stops (O.Next pc) = ⊥
Stops (O.Trap fault) = Unit {0}
Stops O.Call = Unit {0}
Stops (O.Back rd target) = Unit {0}

-- it runs, with these registers at this pc
abbrev pub goes : List ℕ → ℕ → Hart → Hart
goes regs pc x = record x { regs = regs; pc = pc; progress = G.Running }

-- it waits on its call
abbrev pub waits : Hart → Hart
waits x = record x { progress = G.Waiting }

-- it is halted, with or without an exit code
abbrev pub halts : Option ℕ → Hart → Hart
halts code x = record x { progress = G.Halted code }

-- it goes on after a served call with its answers
abbrev pub takes_answer : ℕ → Option ℕ → Hart → Hart
takes_answer a0 a1 x = goes (answered (seen_with Running x) a0 a1) (next x.pc) x

-- it enters a domain at the same pc, with a new frame on top
abbrev pub enters : ℕ → ℕ → Hart → Hart
enters target stack x = record x {
  regs = slice_set x.regs 2 stack;
  domain = target;
  frames = x.frames ++ frame_of (seen_with Running x) ∷ [];
  progress = G.Running;
}

-- it goes on as a frame says, from these registers on; the frame was the top one of these
abbrev pub leaves : List ℕ → Frame → List Frame → Hart → Hart
leaves regs frame rest x = record x {
  regs = restored regs frame.kept;
  pc = frame.back;
  domain = frame.caller;
  frames = rest;
  progress = G.Running;
}

-- it gives up its top frame after a fault, and is halted where it has none
abbrev pub gives_up_over : ℕ → Hart → Option Frame → Hart
gives_up_over cause x None = halts None x
gives_up_over cause x (Some frame) =
    leaves (slice_set x.regs 10 (fault_answer cause)) frame (below_top x.frames) x

abbrev pub gives_up : ℕ → Hart → Hart
gives_up cause x = gives_up_over cause x (top x.frames)

-- it returns over its top frame, by an instruction that writes rd; where it has none, it stays
abbrev pub returns_by : ℕ → Hart → Option Frame → Hart
returns_by rd x None = x
returns_by rd x (Some frame) = leaves (written x.regs rd (next x.pc)) frame (below_top x.frames) x

abbrev pub returns_over : ℕ → Hart → Hart
returns_over rd x = returns_by rd x (top x.frames)
