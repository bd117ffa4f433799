-- One turn of one hart of the plain machine, of whose cases the first that applies decides; runs.
-- The same in prose: docs/ABSTRACT.md.
use Rattle.std.specs.Prelude.{ℕ, zero, suc, ◌+◌, ◌*◌, ◌/◌, ◌%◌, Bool, true, false, not, ◌==◌, ◌&&◌, ◌||◌, nat_le, List, [], ◌∷◌, ◌++◌}
use Rattle.std.specs.Prelude.{length, slice_index, slice_set, if◌then◌else◌, None, unwrap_or}
use Rattle.std.specs.Prelude.{map as list_map}
use Rattle.std.specs.List.{list_all, enumerate_from}
use Rattle.std.specs.Option.{option_map_or}
use Rattle.mx_words.specs.declared.perm.Access.TheVariants as A
use Rattle.mx_words.specs.Announced.{is_announced}
use Rattle.mx_words.specs.Hearing.{lets_pass, nobody}
use Rattle.mx_words.specs.Ranges.{address_of, word_of}
use Rattle.mx_isa.specs.Table.{decoded}
use Rattle.mx_model.specs.declared.values.Frame.{Frame}
use Rattle.mx_model.specs.declared.values.Note.TheVariants as N
use Rattle.mx_model.specs.Checks.{heard_by, is_halted}
use Rattle.mx_model.specs.Effect.{Effect, Goes, Faults, Loads, Stores, Calls, Jumps, effect, by_target, reg, written, next, load_size}
use Rattle.mx_model.specs.Effect.{loaded}
use Rattle.mx_model.specs.Gates.{call_gate, is_return, most_frames, top, below_top, nearest}
use Rattle.mx_model.specs.Run.{Schedule, ByQuantum, ByBytes, is_over}
use Rattle.mx_model.specs.State.{Hart, Status, Running, Waiting, Halted}
use Rattle.mx_model.specs.Turn.{call_of, fault_answer, saved, restored}
use Rattle.mx_uncached.specs.Plain.{Plain, plain_hart, module_of, is_denied, loaded_at, store, with_hart, with_module, go, halt, note}
use Rattle.mx_uncached.specs.Calls.{serve}

-- hart h gives up its top frame, and goes on in the caller as the frame says
abbrev pub give_up : ℕ → List ℕ → Frame → Plain → Plain
give_up h regs frame p =
    let hart = plain_hart p h in
    with_hart h (record hart {
      regs = restored regs frame.kept;
      pc = frame.back;
      domain = frame.caller;
      frames = below_top hart.frames;
      status = Running;
    }) p

-- a fault in a killing domain makes it dead, but for that of a dead domain
abbrev pub kill : ℕ → ℕ → Plain → Plain
kill d cause p =
    let m = module_of p d in
    if m.kills && not (cause == 20) then with_module d (record m { dead = true }) p else p

-- a fault ends a hart with no frame; with one it gives it up, and x10 tells the cause
abbrev pub recover : ℕ → ℕ → Plain → Plain
recover h cause p =
    let hart = plain_hart p h in
    option_map_or (λ frame. give_up h (slice_set hart.regs 10 (fault_answer cause)) frame p)
    (top hart.frames) (halt h None p)

-- a fault of hart h
abbrev pub fault : ℕ → ℕ → ℕ → Plain → Plain
fault h cause value p =
    let hart = plain_hart p h in
    let told = N.Fault p.turns h hart.domain hart.pc (record { cause = cause; value = value }) in
    recover h cause (kill hart.domain cause (note told p))

-- the stack address of domain d for hart h, 0 where it has no stack area
abbrev pub stack_address : Plain → ℕ → ℕ → ℕ
stack_address p d h =
    let stack = (module_of p d).stack in
    if stack.words == 0 then 0 else address_of (stack.first + stack.words * (h + 1))

-- hart h crosses into a domain: a frame is pushed, and x2 is the domain's stack
abbrev pub cross : ℕ → ℕ → Plain → Plain
cross h target p =
    let hart = plain_hart p h in
    let frame : Frame =
    record { back = reg hart.regs 1; caller = hart.domain; kept = saved hart.regs } in
    let stack = unwrap_or (nearest hart.frames target) (stack_address p target h) in
    with_hart h (record hart {
      regs = slice_set hart.regs 2 stack;
      domain = target;
      frames = hart.frames ++ frame ∷ [];
      status = Running;
    }) p

-- case 5: hart h is at a call gate into a domain
abbrev pub at_gate : ℕ → ℕ → Plain → Plain
at_gate h target p =
    let hart = plain_hart p h in
    let back = reg hart.regs 1 in
    if not (back % 4 == 0) then fault h 19 back p else
    if (module_of p target).dead then go h (slice_set hart.regs 10 (fault_answer 20)) back p else
    if nat_le most_frames (length hart.frames) then fault h 16 hart.pc p else
    cross h target p

-- case 7: hart h leaves at a return gate, by a jump that writes rd
abbrev pub at_return : ℕ → ℕ → ℕ → Plain → Plain
at_return h rd target p =
    let hart = plain_hart p h in
    option_map_or (λ (frame : Frame).
    if frame.back == target then give_up h (written hart.regs rd (next hart.pc)) frame p
    else fault h 17 target p)
    (top hart.frames) (fault h 18 target p)

-- whether every other hart that isn't halted is among those that have heard hart h's call
abbrev pub all_heard : ℕ → List Bool → Plain → Bool
all_heard h heard p =
    list_all (λ (x : ℕ × Hart). lets_pass h heard x.0 (is_halted x.1.status))
    (enumerate_from 0 p.harts)

-- case 8: hart h makes a call; an announced one waits for the other harts
abbrev pub ask : ℕ → Plain → Plain
ask h p =
    let hart = plain_hart p h in
    let call = call_of h hart in
    if not (is_announced call.number) || all_heard h nobody p then serve h call p
    else with_hart h (record hart { status = Waiting call nobody }) p

-- cases 7 to 9: what an instruction of hart h does
abbrev pub execute : ℕ → Effect → Plain → Plain
execute h (Goes regs pc) p = go h regs pc p
execute h (Faults cause value) p = fault h cause value p
execute h (Loads base address width rd) p =
    let hart = plain_hart p h in
    let bytes = loaded_at p address (load_size width) in
    if is_denied p hart.domain A.Read address then fault h 5 address p
    else go h (written hart.regs rd (loaded width bytes)) (next hart.pc) p
execute h (Stores base address size value) p =
    let hart = plain_hart p h in
    if is_denied p hart.domain A.Write address then fault h 7 address p
    else go h hart.regs (next hart.pc) (store address size value p)
execute h Calls p = ask h p
execute h (Jumps rd target) p =
    let hart = plain_hart p h in
    if option_map_or (is_return p.gates hart.domain) (word_of hart.pc p.size) false
    then at_return h rd target p
    else by_target target (go h (written hart.regs rd (next hart.pc)) target p)
    (fault h 0 target p)

-- case 6: hart h fetches
abbrev pub fetch : ℕ → Plain → Plain
fetch h p =
    let hart = plain_hart p h in
    let word = loaded_at p hart.pc 4 in
    if is_denied p hart.domain A.Execute hart.pc then fault h 1 hart.pc p else
    option_map_or (λ inst. execute h (effect inst hart.regs hart.pc) p)
    (decoded word) (fault h 2 word p)

-- case 4: hart h's domain is dead; or case 5, or case 6
abbrev pub step : ℕ → Plain → Plain
step h p =
    let hart = plain_hart p h in
    let gate = option_map_or (call_gate p.gates hart.domain) (word_of hart.pc p.size) None in
    if (module_of p hart.domain).dead then fault h 20 hart.pc p
    else option_map_or (λ target. at_gate h target p) gate (fetch h p)

-- case 3: hart h's call takes effect where the others have heard it; or case 4
abbrev pub move : ℕ → Status → Plain → Plain
move h (Halted code) p = p
move h (Waiting call heard) p = if all_heard h heard p then serve h call p else p
move h Running p = step h p

-- case 2: hart h hears the calls of the other harts
abbrev pub hear : ℕ → Plain → Plain
hear h p =
    record p {
      harts = list_map
          (λ (x : ℕ × Hart).
          if x.0 == h then x.1 else record x.1 { status = heard_by h x.1.status })
          (enumerate_from 0 p.harts);
    }

-- a turn of hart h, which does nothing more where it is halted or isn't there (case 1)
abbrev pub plain_turn : Plain → ℕ → Plain
plain_turn p h =
    let counted = record p { turns = p.turns + 1 } in
    let status = (plain_hart p h).status in
    if is_halted status then counted else move h status (hear h counted)

-- the hart that makes the next turn
abbrev pub next_hart : Schedule → Plain → ℕ
next_hart (ByQuantum quantum) p = p.turns / quantum % length p.harts
next_hart (ByBytes bytes) p = slice_index bytes p.turns

-- whether no further turn is made: all harts are halted, or the schedule is over
abbrev pub is_stopped : Schedule → Plain → Bool
is_stopped schedule p =
    list_all (λ (hart : Hart). is_halted hart.status) p.harts || is_over schedule p.turns

-- at most n turns by a schedule
abbrev pub plain_run : Schedule → ℕ → Plain → Plain
plain_run schedule zero p = p
plain_run schedule (suc n) p =
    elim (is_stopped schedule p)
    [ true ↦ p | false ↦ plain_run schedule n (plain_turn p (next_hart schedule p)) ]
