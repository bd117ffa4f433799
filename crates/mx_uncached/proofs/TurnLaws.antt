-- A turn when its caches are forgotten, by the cases of the written rule.
use Rattle.std.proofs.Common.{◌≡◌, ℕ, ◌%◌, true, false, not, ◌==◌, ◌||◌, nat_le, List, length, refl, ◌∙◌, ap, if◌then◌else◌, Option, Some}
use Rattle.std.proofs.Common.{None}
use Rattle.std.specs.Prelude.{slice_set}
use Rattle.std.specs.Option.{option_map_or}
use Rattle.mx_words.specs.declared.perm.Access.TheVariants as A
use Rattle.mx_words.specs.Announced.{is_announced}
use Rattle.mx_words.specs.Caches.{Cache}
use Rattle.mx_words.specs.Hearing.{nobody}
use Rattle.mx_isa.specs.declared.inst.Inst.{Inst}
use Rattle.mx_isa.specs.Table.{decoded}
use Rattle.mx_model.specs.declared.values.Frame.{Frame}
use Rattle.mx_model.specs.declared.values.TurnKind.TheVariants as T
use Rattle.mx_model.specs.Checks.{hears, is_halted, is_ready, looked_all}
use Rattle.mx_model.specs.Effect.{Effect, Goes, Faults, Loads, Stores, Calls, Jumps, effect, by_target, load_size, loaded, next, reg}
use Rattle.mx_model.specs.Effect.{written}
use Rattle.mx_model.specs.Gates.{most_frames, top}
use Rattle.mx_model.specs.Reads.{reads}
use Rattle.mx_model.specs.Run.{turn}
use Rattle.mx_model.specs.State.{Core, Hart, Running, State, Status, Waiting, Halted, hart_at, module_at}
use Rattle.mx_model.specs.Turn.{Action, Asks, Bounces, Crosses, Returns, Runs, Traps, Writes, Serves, Waits, acted, asked, at_gate}
use Rattle.mx_model.specs.Turn.{at_return, by_effect, by_status, by_word, call_gate_at, call_of, counted, decide, enacted, fault_answer}
use Rattle.mx_model.specs.Turn.{fetches, is_denied, is_return_at, load_at, returned_over, runs_at, runs_in, traps, without_look}
use Rattle.mx_model.proofs.TurnCases.{hart-hears, looked_all-caches}
use Rattle.mx_uncached.specs.Plain.{Plain, go, store, with_hart}
use Rattle.mx_uncached.specs.Calls.{serve}
use Rattle.mx_uncached.specs.Turn.{all_heard, ask, cross, execute, fault, fetch, give_up, hear, move, plain_turn, step}
use Rattle.mx_uncached.specs.Turn.{at_gate as plain_gate, at_return as plain_return}
use Rattle.mx_uncached.specs.Forgetting.{plain}
use Rattle.mx_uncached.proofs.LeafLaws.{ends, faults, goes, quiet}
use Rattle.mx_uncached.proofs.CallLaws.{cached, served-plain}

-- what hart h makes of an action, in a state with other caches
abbrev acts : State → List Cache → ℕ → Action → Plain
acts s k h action = ends s (acted (reads s) (cached s k) h (hart_at s.core h) action)

-- at a call gate (case 5)
gate-plain : (s : State) (k : List Cache) (h target : ℕ) →
    acts s k h (at_gate s.core (hart_at s.core h) target).action ≡ plain_gate h target (plain s)
gate-plain s k h target =
    let hart = hart_at s.core h in
    let back = reg hart.regs 1 in
    let p = plain s in
    let bounced = go h (slice_set hart.regs 10 (fault_answer 20)) back p in
    elim (not (back % 4 == 0)) as
    (λ b. acts s k h (if b then traps 19 back else if (module_at s.core target).dead then without_look Bounces else
    if nat_le most_frames (length hart.frames) then traps 16 hart.pc else without_look (Crosses target)).action
    ≡ (if b then fault h 19 back p else if (module_at s.core target).dead then bounced else if nat_le most_frames
    (length hart.frames) then fault h 16 hart.pc p else cross h target p)) [
      | true ↦ faults s (cached s k) h 19 back
      | false ↦ elim (module_at s.core target).dead as (λ b. acts s k h (if b then without_look Bounces else
          if nat_le most_frames (length hart.frames) then traps 16 hart.pc else without_look (Crosses target)).action
          ≡ (if b then bounced else if nat_le most_frames
          (length hart.frames) then fault h 16 hart.pc p else cross h target p)) [
            | true ↦ goes s (cached s k) T.Returned h _ _
            | false ↦ elim (nat_le most_frames (length hart.frames)) as
                (λ b. acts s k h (if b then traps 16 hart.pc else without_look (Crosses target)).action
                ≡ (if b then fault h 16 hart.pc p else cross h target p)) [
                  | true ↦ faults s (cached s k) h 16 hart.pc
                  | false ↦ quiet _
                ]
          ]
    ]

-- at a return gate (case 7)
returned-plain : (s : State) (k : List Cache) (h rd target : ℕ) (frame : Frame) →
    acts s k h (returned_over rd target frame)
    ≡ (if frame.back == target then give_up h (written (hart_at s.core h).regs rd (next (hart_at s.core h).pc)) frame
    (plain s) else fault h 17 target (plain s))
returned-plain s k h rd target frame =
    elim (frame.back == target) as (λ b. acts s k h (if b then Returns rd frame else Traps 17 target)
    ≡ (if b then give_up h (written (hart_at s.core h).regs rd (next (hart_at s.core h).pc)) frame
    (plain s) else fault h 17 target (plain s))) [
      | true ↦ quiet _
      | false ↦ faults s (cached s k) h 17 target
    ]

return-plain : (s : State) (k : List Cache) (h rd target : ℕ) →
    acts s k h (at_return (hart_at s.core h) rd target) ≡ plain_return h rd target (plain s)
return-plain s k h rd target =
    elim (top (hart_at s.core h).frames) as
    (λ o. acts s k h (option_map_or (returned_over rd target) o (Traps 18 target))
    ≡ option_map_or
    (λ (frame : Frame). if frame.back == target then give_up h
    (written (hart_at s.core h).regs rd (next (hart_at s.core h).pc)) frame (plain s) else fault h 17 target (plain s))
    o (fault h 18 target (plain s))) [
      | None ↦ faults s (cached s k) h 18 target
      | Some frame ↦ returned-plain s k h rd target frame
    ]

-- a jump to a target (case 9)
jump-plain : (s : State) (k : List Cache) (h rd target : ℕ) → let hart = hart_at s.core h in
    acts s k h (by_target target (Runs (written hart.regs rd (next hart.pc)) target) (Traps 0 target))
    ≡ by_target target (go h (written hart.regs rd (next hart.pc)) target (plain s)) (fault h 0 target (plain s))
jump-plain s k h rd target =
    let hart = hart_at s.core h in
    elim (target % 4 == 0) as
    (λ b. acts s k h (if b then Runs (written hart.regs rd (next hart.pc)) target else Traps 0 target)
    ≡ (if b then go h (written hart.regs rd (next hart.pc)) target (plain s) else fault h 0 target (plain s))) [
      | true ↦ goes s (cached s k) T.Ran h _ _
      | false ↦ faults s (cached s k) h 0 target
    ]

-- a call (case 8)
ask-plain : (s : State) (k : List Cache) (h : ℕ) → acts s k h (Asks (call_of h (hart_at s.core h))) ≡ ask h (plain s)
ask-plain s k h =
    let hart = hart_at s.core h in
    let call = call_of h hart in
    elim (not (is_announced call.number) || all_heard h nobody (plain s)) as
    (λ b. ends s (asked (reads s) (cached s k) h hart call b)
    ≡ (if b then serve h call (plain s) else with_hart h (record hart { status = Waiting call nobody }) (plain s))) [
      | true ↦ served-plain s k h call
      | false ↦ quiet _
    ]

-- what an instruction does (cases 7 to 9)
execute-plain : (s : State) (k : List Cache) (h : ℕ) (e : Effect) →
    acts s k h (by_effect (reads s) s.core h (hart_at s.core h) e).action ≡ execute h e (plain s)
execute-plain s k h (Goes regs pc) = goes s (cached s k) T.Ran h regs pc
execute-plain s k h (Faults cause value) = faults s (cached s k) h cause value
execute-plain s k h (Loads base address width rd) =
    let hart = hart_at s.core h in
    let regs = written hart.regs rd (loaded width (load_at s.core address (load_size width))) in
    elim (is_denied (reads s) s.core hart.domain address A.Read) as
    (λ b. acts s k h (if b then Traps 5 address else Runs regs (next hart.pc))
    ≡ (if b then fault h 5 address (plain s) else go h regs (next hart.pc) (plain s))) [
      | true ↦ faults s (cached s k) h 5 address
      | false ↦ goes s (cached s k) T.Ran h regs (next hart.pc)
    ]
execute-plain s k h (Stores base address size value) =
    let hart = hart_at s.core h in
    elim (is_denied (reads s) s.core hart.domain address A.Write) as
    (λ b. acts s k h (if b then Traps 7 address else Writes address size value)
    ≡ (if b then fault h 7 address (plain s) else go h hart.regs (next hart.pc) (store address size value (plain s)))) [
      | true ↦ faults s (cached s k) h 7 address
      | false ↦ quiet _
    ]
execute-plain s k h Calls = ask-plain s k h
execute-plain s k h (Jumps rd target) =
    let hart = hart_at s.core h in
    elim (is_return_at s.core hart.domain hart.pc) as
    (λ b. acts s k h
    (if b then at_return hart rd target else by_target target (Runs (written hart.regs rd (next hart.pc)) target)
    (Traps 0 target))
    ≡ (if b then plain_return h rd target (plain s) else by_target target
    (go h (written hart.regs rd (next hart.pc)) target (plain s)) (fault h 0 target (plain s)))) [
      | true ↦ return-plain s k h rd target
      | false ↦ jump-plain s k h rd target
    ]

-- a fetched word, and a fetch (case 6)
word-plain : (s : State) (k : List Cache) (h word : ℕ) (o : Option Inst) →
    acts s k h (by_word (reads s) s.core h (hart_at s.core h) word o).action
    ≡ option_map_or (λ inst. execute h (effect inst (hart_at s.core h).regs (hart_at s.core h).pc) (plain s)) o
    (fault h 2 word (plain s))
word-plain s k h word None = faults s (cached s k) h 2 word
word-plain s k h word (Some inst) = execute-plain s k h (effect inst (hart_at s.core h).regs (hart_at s.core h).pc)

fetch-plain : (s : State) (k : List Cache) (h : ℕ) →
    acts s k h (runs_at (reads s) s.core h (hart_at s.core h) None).action ≡ fetch h (plain s)
fetch-plain s k h =
    let hart = hart_at s.core h in
    let word = load_at s.core hart.pc 4 in
    elim (is_denied (reads s) s.core hart.domain hart.pc A.Execute) as
    (λ b. acts s k h (fetches (reads s) s.core h hart b).action
    ≡ (if b then fault h 1 hart.pc (plain s) else option_map_or
    (λ inst. execute h (effect inst hart.regs hart.pc) (plain s)) (decoded word) (fault h 2 word (plain s)))) [
      | true ↦ faults s (cached s k) h 1 hart.pc
      | false ↦ word-plain s k h word (decoded word)
    ]

-- a running hart, at a call gate or none (cases 4 and 5)
pc-plain : (s : State) (k : List Cache) (h : ℕ) (o : Option ℕ) →
    acts s k h (runs_at (reads s) s.core h (hart_at s.core h) o).action
    ≡ option_map_or (λ target. plain_gate h target (plain s)) o (fetch h (plain s))
pc-plain s k h None = fetch-plain s k h
pc-plain s k h (Some target) = gate-plain s k h target

step-plain : (s : State) (k : List Cache) (h : ℕ) →
    acts s k h (runs_in (reads s) s.core h (hart_at s.core h) (module_at s.core (hart_at s.core h).domain).dead).action
    ≡ step h (plain s)
step-plain s k h =
    let hart = hart_at s.core h in
    let gate = call_gate_at s.core hart.domain hart.pc in
    elim (module_at s.core hart.domain).dead as (λ b. acts s k h (runs_in (reads s) s.core h hart b).action
    ≡ (if b then fault h 20 hart.pc (plain s) else option_map_or (λ target. plain_gate h target (plain s)) gate
    (fetch h (plain s)))) [
      | true ↦ faults s (cached s k) h 20 hart.pc
      | false ↦ pc-plain s k h gate
    ]

-- what a hart does by its status (cases 1, 3 and 4)
move-plain : (s : State) (k : List Cache) (h : ℕ) (status : Status) →
    acts s k h (by_status (reads s) s.core h (hart_at s.core h) status).action ≡ move h status (plain s)
move-plain s k h (Halted code) = quiet _
move-plain s k h Running = step-plain s k h
move-plain s k h (Waiting call heard) =
    elim (is_ready s.core h heard) as
    (λ b. acts s k h (if b then Serves call else Waits) ≡ (if b then serve h call (plain s) else plain s)) [
      | true ↦ served-plain s k h call
      | false ↦ quiet _
    ]

-- a decided action after its looks
acted-plain : (s : State) (h : ℕ) →
    ends s (enacted (reads s) s.core h (decide (reads s) s.core h)) ≡ move h (hart_at s.core h).status (plain s)
acted-plain s h =
    let r = reads s in
    let d = decide r s.core h in
    ap (λ (x : Core). ends s (acted r x h (hart_at s.core h) d.action)) (looked_all-caches r h d.looks s.core)
    ∙ move-plain s (looked_all r h d.looks s.core).caches h (hart_at s.core h).status

-- a turn
pub turn-plain : (s : State) (h : ℕ) → plain (turn s h) ≡ plain_turn (plain s) h
turn-plain s h =
    let c = counted s.core in
    let heard = hears h c in
    elim (is_halted (hart_at s.core h).status) as (λ b. is_halted (hart_at s.core h).status ≡ b →
    ends s (enacted (reads s) (if b then c else heard) h (decide (reads s) (if b then c else heard) h))
    ≡ (if b then plain (record s { core = c }) else move h (hart_at s.core h).status
    (hear h (plain (record s { core = c }))))) [
      | true ↦ λ e. acted-plain (record s { core = c }) h
          ∙ still h (hart_at s.core h).status (plain (record s { core = c })) e
      | false ↦ λ e. acted-plain (record s { core = heard }) h
          ∙ ap (λ (x : Hart). move h x.status (plain (record s { core = heard }))) (hart-hears c h)
    ] refl
  where
    still : (h : ℕ) (status : Status) (p : Plain) → is_halted status ≡ true → move h status p ≡ p
    still h (Halted code) p e = refl
    still h Running p e = absurd (let q : ⊥ = cc in q)
    still h (Waiting call heard) p e = absurd (let q : ⊥ = cc in q)
