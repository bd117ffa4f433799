-- One turn of one hart. First it is decided what happens, from a few readings of the state; then it is done.
-- The rules: docs/MACHINE.md, "One turn", "Faults" and "Gates".
use Rattle.std.specs.Prelude.{ℕ, ◌+◌, ◌-◌, ◌*◌, ◌%◌, Bool, true, false, not, ◌==◌, ◌&&◌, ◌||◌, nat_lt, nat_le, List, [], ◌∷◌, ◌++◌, length}
use Rattle.std.specs.Prelude.{zip, fold, slice_set, if◌then◌else◌, Option, Some, None, unwrap_or}
use Rattle.std.specs.Prelude.{map as list_map}
use Rattle.std.specs.Option.{option_map_or}
use Rattle.mx_words.specs.declared.perm.Perm.{Perm}
use Rattle.mx_words.specs.declared.perm.Perm.TheVariants as P
use Rattle.mx_words.specs.declared.perm.Access.{Access}
use Rattle.mx_words.specs.declared.perm.Access.TheVariants as A
use Rattle.mx_words.specs.Announced.{is_announced}
use Rattle.mx_words.specs.Bytes.{number_at, put_at}
use Rattle.mx_words.specs.Hearing.{nobody}
use Rattle.mx_words.specs.Newest.{Give}
use Rattle.mx_words.specs.Ranges.{ram_base, word_of, address_of}
use Rattle.mx_words.specs.Rights.{denies}
use Rattle.mx_isa.specs.declared.inst.Inst.{Inst}
use Rattle.mx_isa.specs.declared.inst.LoadWidth.{LoadWidth}
use Rattle.mx_isa.specs.Table.{decoded}
use Rattle.mx_model.specs.declared.values.Call.{Call}
use Rattle.mx_model.specs.declared.values.Frame.{Frame}
use Rattle.mx_model.specs.declared.values.Note.{Note}
use Rattle.mx_model.specs.declared.values.Note.TheVariants as N
use Rattle.mx_model.specs.declared.values.TurnKind.{TurnKind}
use Rattle.mx_model.specs.declared.values.TurnKind.TheVariants as T
use Rattle.mx_model.specs.Checks.{Look, hears, is_halted, is_ready, looks_at, looked_all, empties_places}
use Rattle.mx_model.specs.Effect.{Effect, Goes, Faults, Loads, Stores, Calls, Jumps, effect, by_target, reg, written, next, load_size}
use Rattle.mx_model.specs.Effect.{loaded}
use Rattle.mx_model.specs.Gates.{call_gate, is_return, most_frames, top, below_top, nearest}
use Rattle.mx_model.specs.Reads.{Reads, Change}
use Rattle.mx_model.specs.Serve.{Served, serve}
use Rattle.mx_model.specs.State.{Core, Hart, Status, Running, Waiting, Halted, module_at, with_module, hart_at, with_hart}

-- what a hart does in its turn
pub data Action : Type 0 where
  -- it is halted, or isn't there
  Rests : Action
  -- its call may not take effect yet
  Waits : Action
  -- its call takes effect
  Serves : (call : Call) → Action
  -- it makes a supervisor call
  Asks : (call : Call) → Action
  -- it faults
  Traps : (cause : ℕ) → (value : ℕ) → Action
  -- a dead target sends it back from a gate
  Bounces : Action
  -- it crosses at a gate into a domain
  Crosses : (target : ℕ) → Action
  -- it returns over its top frame, by an instruction that writes rd
  Returns : (rd : ℕ) → (frame : Frame) → Action
  -- an instruction leaves these registers and this pc
  Runs : (regs : List ℕ) → (pc : ℕ) → Action
  -- an instruction stores the low `size` bytes of a value
  Writes : (address : ℕ) → (size : ℕ) → (value : ℕ) → Action

-- an action, and the words that the hart looks at before it, in order
pub record Decided : Type 0 where
  pub looks : List Look
  pub action : Action

abbrev pub without_look : Action → Decided
without_look action = record { looks = []; action = action }

-- a trap by a cause, with no look
abbrev pub traps : ℕ → ℕ → Decided
traps cause value = without_look (Traps cause value)

-- the permission of a domain at an address, none outside RAM, and whether it denies an access there
abbrev pub perm_of : Reads → Core → ℕ → ℕ → Perm
perm_of r c d address = option_map_or (r.perm d) (word_of address c.size) P.None

abbrev pub is_denied : Reads → Core → ℕ → ℕ → Access → Bool
is_denied r c d address access = denies (perm_of r c d) address access

-- the call gate, or a return gate, that stands for a domain at an address
abbrev pub call_gate_at : Core → ℕ → ℕ → Option ℕ
call_gate_at c d address = option_map_or (call_gate c.gates d) (word_of address c.size) None

abbrev pub is_return_at : Core → ℕ → ℕ → Bool
is_return_at c d address = option_map_or (is_return c.gates d) (word_of address c.size) false

-- the number that the bytes at an address hold
abbrev pub load_at : Core → ℕ → ℕ → ℕ
load_at c address size = number_at c.ram (address - ram_base) size

-- at a call gate (case 5)
abbrev pub at_gate : Core → Hart → ℕ → Decided
at_gate c hart target =
    if not (reg hart.regs 1 % 4 == 0) then traps 19 (reg hart.regs 1) else
    if (module_at c target).dead then without_look Bounces else
    if nat_le most_frames (length hart.frames) then traps 16 hart.pc else
    without_look (Crosses target)

-- at a return gate (case 7): JAL and JALR return over the top frame
abbrev pub returned_over : ℕ → ℕ → Frame → Action
returned_over rd target frame = if frame.back == target then Returns rd frame else Traps 17 target

abbrev pub at_return : Hart → ℕ → ℕ → Action
at_return hart rd target =
    option_map_or (returned_over rd target) (top hart.frames) (Traps 18 target)

-- the call that a hart makes
abbrev pub call_of : ℕ → Hart → Call
call_of h hart = record {
  number = reg hart.regs 17;
  args = list_map (reg hart.regs) (10 ∷ 11 ∷ 12 ∷ 13 ∷ []);
  hart = h;
  domain = hart.domain;
  nested = nat_lt 0 (length hart.frames);
}

-- a JAL or JALR where no return gate stands: rd takes pc + 4 and the hart goes on at the target, or a misaligned target faults and
-- writes no register
abbrev pub jump_action : Hart → ℕ → ℕ → Action
jump_action hart rd target =
    by_target target (Runs (written hart.regs rd (next hart.pc)) target) (Traps 0 target)

-- a load, and a store
abbrev pub load_action : Reads → Core → Hart → ℕ → LoadWidth → ℕ → Action
load_action r c hart address width rd =
    if is_denied r c hart.domain address A.Read then Traps 5 address else
    Runs (written hart.regs rd (loaded width (load_at c address (load_size width)))) (next hart.pc)

abbrev pub store_action : Reads → Core → Hart → ℕ → ℕ → ℕ → Action
store_action r c hart address size value =
    if is_denied r c hart.domain address A.Write then Traps 7 address else Writes address size value

-- what a fetched instruction does by its effect (cases 7 to 9)
abbrev pub by_effect : Reads → Core → ℕ → Hart → Effect → Decided
by_effect r c h hart (Goes regs pc) = without_look (Runs regs pc)
by_effect r c h hart (Faults cause value) = traps cause value
by_effect r c h hart (Loads p address width rd) = record {
  looks = looks_at c p hart.domain address;
  action = load_action r c hart address width rd;
}
by_effect r c h hart (Stores p address size value) = record {
  looks = looks_at c p hart.domain address;
  action = store_action r c hart address size value;
}
by_effect r c h hart Calls = without_look (Asks (call_of h hart))
by_effect r c h hart (Jumps rd target) = without_look (
    if is_return_at c hart.domain hart.pc then at_return hart rd target
    else jump_action hart rd target)

-- a fetched word that matches no row of the instruction table, or an instruction (case 6)
abbrev pub by_word : Reads → Core → ℕ → Hart → ℕ → Option Inst → Decided
by_word r c h hart word None = traps 2 word
by_word r c h hart word (Some inst) = by_effect r c h hart (effect inst hart.regs hart.pc)

-- a fetch, denied or not
abbrev pub fetches : Reads → Core → ℕ → Hart → Bool → Decided
fetches r c h hart true = traps 1 hart.pc
fetches r c h hart false = let word = load_at c hart.pc 4 in by_word r c h hart word (decoded word)

abbrev pub after_look : List Look → Decided → Decided
after_look looks d = record { looks = looks ++ d.looks; action = d.action }

abbrev pub runs_at : Reads → Core → ℕ → Hart → Option ℕ → Decided
runs_at r c h hart (Some target) = at_gate c hart target
runs_at r c h hart None =
    after_look (looks_at c 0 hart.domain hart.pc)
    (fetches r c h hart (is_denied r c hart.domain hart.pc A.Execute))

-- a running hart, in a dead domain or a live one (case 4)
abbrev pub runs_in : Reads → Core → ℕ → Hart → Bool → Decided
runs_in r c h hart true = traps 20 hart.pc
runs_in r c h hart false = runs_at r c h hart (call_gate_at c hart.domain hart.pc)

-- what hart h does, by its status, in a state in which it has heard the others' calls (cases 1, 3 and 4)
abbrev pub by_status : Reads → Core → ℕ → Hart → Status → Decided
by_status r c h hart (Halted code) = without_look Rests
by_status r c h hart (Waiting call heard) =
    without_look (if is_ready c h heard then Serves call else Waits)
by_status r c h hart Running = runs_in r c h hart (module_at c hart.domain).dead

abbrev pub decide : Reads → Core → ℕ → Decided
decide r c h = by_status r c h (hart_at c h) (hart_at c h).status

-- what a turn makes: all but rights and owners afterwards, a change of rights, a give, console bytes, a note, and its kind
pub record Made : Type 0 where
  pub core : Core
  pub change : Option Change
  pub give : Option Give
  pub console : List ℕ
  pub note : Option Note
  pub kind : TurnKind

-- a turn that makes nothing but a new state
abbrev pub made : TurnKind → Core → Made
made kind c =
    record { core = c; change = None; give = None; console = []; note = None; kind = kind }

-- hart h with other registers and another pc; it runs
abbrev pub with_regs : ℕ → Hart → List ℕ → ℕ → Core → Core
with_regs h hart regs pc c = with_hart h (record hart { regs = regs; pc = pc; status = Running }) c

-- the registers that a crossing saves: x2, x3, x4, x8, x9 and x18 to x27
abbrev pub saved_registers : List ℕ
saved_registers = 2 ∷ 3 ∷ 4 ∷ 8 ∷ 9 ∷ 18 ∷ 19 ∷ 20 ∷ 21 ∷ 22 ∷ 23 ∷ 24 ∷ 25 ∷ 26 ∷ 27 ∷ []

abbrev pub saved : List ℕ → List ℕ
saved regs = list_map (reg regs) saved_registers

abbrev pub restored : List ℕ → List ℕ → List ℕ
restored regs kept = fold (λ rs (p : ℕ × ℕ). slice_set rs p.0 p.1) regs (zip saved_registers kept)

-- the address after a domain's stack area for a hart, 0 where it has none
abbrev pub stack_address : Core → ℕ → ℕ → ℕ
stack_address c d h =
    let stack = (module_at c d).stack in
    if stack.words == 0 then 0 else address_of (stack.first + stack.words * (h + 1))

-- a crossing: a frame is pushed, x2 becomes the entered domain's saved or own stack address, and the places are emptied
abbrev pub crossed : Core → ℕ → Hart → ℕ → Core
crossed c h hart target =
    let frame : Frame =
    record { back = reg hart.regs 1; caller = hart.domain; kept = saved hart.regs } in
    let stack = unwrap_or (nearest hart.frames target) (stack_address c target h) in
    empties_places h (with_hart h (record hart {
      regs = slice_set hart.regs 2 stack;
      domain = target;
      frames = hart.frames ++ frame ∷ [];
      status = Running;
    }) c)

-- the top frame is given up: the hart goes on in the caller at the return address with the fifteen registers restored, and the places are
-- emptied
abbrev pub over_frame : Core → ℕ → Hart → Frame → List ℕ → Core
over_frame c h hart frame regs =
    empties_places h (with_hart h (record hart {
      regs = restored regs frame.kept;
      pc = frame.back;
      domain = frame.caller;
      frames = below_top hart.frames;
      status = Running;
    }) c)

-- a hart that a fault or an exit halts
abbrev pub halted : ℕ → Hart → Option ℕ → Core → Core
halted h hart exit_code c = with_hart h (record hart { status = Halted exit_code }) c

-- x10 after a fault inside a call
abbrev pub fault_answer : ℕ → ℕ
fault_answer cause = 0xFFFFFF00 + cause

-- where a fault leaves its hart: halted, or over its top frame in the caller
abbrev pub given_up : Core → ℕ → Hart → ℕ → Option Frame → Core
given_up c h hart cause None = halted h hart None c
given_up c h hart cause (Some frame) =
    over_frame c h hart frame (slice_set hart.regs 10 (fault_answer cause))

-- a fault by another cause than 20 makes a killing domain dead
abbrev pub killed : ℕ → ℕ → Core → Core
killed d cause c =
    let m = module_at c d in
    if m.kills && not (cause == 20) then with_module d (record m { dead = true }) c else c

abbrev pub trapped : Core → ℕ → Hart → ℕ → ℕ → Made
trapped c h hart cause value =
    record (made T.Trapped (given_up (killed hart.domain cause c) h hart cause (top hart.frames))) {
      note = Some (N.Fault c.turns h hart.domain hart.pc (record { cause = cause; value = value }));
    }

-- the registers after a served call that doesn't end its hart: x10, and for an exchange x11
abbrev pub answered : Hart → ℕ → Option ℕ → List ℕ
answered hart a0 a1 =
    let regs = slice_set hart.regs 10 a0 in option_map_or (slice_set regs 11) a1 regs

-- a served call
abbrev pub done : ℕ → Hart → Served → Made
done h hart s = record (made T.Called (
    if s.stop then halted h hart (Some s.a0) s.core
    else with_regs h hart (answered hart s.a0 s.a1) (next hart.pc) s.core)) {
      change = s.change;
      give = s.give;
      console = s.console;
      note = if s.stop then Some (N.Exit s.core.turns h hart.domain s.a0) else None;
    }

abbrev pub served : Reads → Core → ℕ → Hart → Call → Made
served r c h hart call = done h hart (serve r c call)

-- an announced call waits until the other harts have heard it; where they are all halted, or for another call, it is served at once (case
-- 8)
abbrev pub asked : Reads → Core → ℕ → Hart → Call → Bool → Made
asked r c h hart call true = served r c h hart call
asked r c h hart call false =
    made T.Called (with_hart h (record hart { status = Waiting call nobody }) c)

abbrev pub is_served_now : Core → ℕ → Call → Bool
is_served_now c h call = not (is_announced call.number) || is_ready c h nobody

-- an action done, in the state after the looks
abbrev pub acted : Reads → Core → ℕ → Hart → Action → Made
acted r c h hart Rests = made T.Idle c
acted r c h hart Waits = made T.Waited c
acted r c h hart (Serves call) = served r c h hart call
acted r c h hart (Asks call) = asked r c h hart call (is_served_now c h call)
acted r c h hart (Traps cause value) = trapped c h hart cause value
acted r c h hart Bounces =
    made T.Returned
    (with_regs h hart (slice_set hart.regs 10 (fault_answer 20)) (reg hart.regs 1) c)
acted r c h hart (Crosses target) = made T.Crossed (crossed c h hart target)
acted r c h hart (Returns rd frame) =
    made T.Returned (over_frame c h hart frame (written hart.regs rd (next hart.pc)))
acted r c h hart (Runs regs pc) = made T.Ran (with_regs h hart regs pc c)
acted r c h hart (Writes address size value) =
    made T.Ran
    (with_regs h hart hart.regs (next hart.pc)
    (record c { ram = put_at c.ram (address - ram_base) size value }))

-- the decided action done after its looks
abbrev pub enacted : Reads → Core → ℕ → Decided → Made
enacted r c h d = acted r (looked_all r h d.looks c) h (hart_at c h) d.action

-- hart h hears the others' calls, unless it is halted (case 2)
abbrev pub heard_first : Core → ℕ → Core
heard_first c h = if is_halted (hart_at c h).status then c else hears h c

-- one more turn is made
abbrev pub counted : Core → Core
counted c = record c { turns = c.turns + 1 }

-- what a turn of hart h makes of a state, by its answers
abbrev pub turned : Reads → Core → ℕ → Made
turned r c h = let ready = heard_first (counted c) h in enacted r ready h (decide r ready h)
