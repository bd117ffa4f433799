-- One instruction over a bus: what it answers, and what it leaves.
use Rattle.std.specs.Prelude.{◌≡◌, ℕ, ◌%◌, ◌<◌, Bool, true, false, if◌then◌else◌, List, [], ◌∷◌, flat_map, Option, Some, None}
use Rattle.mx_words.specs.declared.perm.Perm.{Perm}
use Rattle.mx_words.specs.declared.perm.Access.TheVariants.{Read, Write, Execute}
use Rattle.mx_isa.specs.declared.inst.Inst.{Inst}
use Rattle.mx_isa.specs.Table.{decoded}
use Rattle.mx_model.specs.Effect.{Effect, Goes, Faults, Loads, Stores, Calls, Jumps, effect, by_target, written, next, load_size, loaded}
use Rattle.mx_model.specs.Checks.{Look, looks_at}
use Rattle.mx_model.specs.Reads.{Reads}
use Rattle.mx_model.specs.State.{Core, Hart}
use Rattle.mx_model.specs.Turn.{Action, Asks, Runs, Traps, at_return, call_of, is_return_at, perm_of}
use Rattle.mx_core.specs.declared.outcome.Outcome.{Outcome}
use Rattle.mx_core.specs.declared.outcome.Outcome.TheVariants.{Next, Trap, Call, Back}
use Rattle.mx_core.specs.Bus.{denied, load_at, store_at, Touch}

-- the effect of a fetched word, which may match no row of the instruction table
abbrev pub effect_of : List ℕ → ℕ → ℕ → Option Inst → Effect
effect_of regs pc word None = Faults 2 word
effect_of regs pc word (Some inst) = effect inst regs pc

-- the effect of an allowed or a denied fetch
abbrev pub after_fetch : List ℕ → List ℕ → ℕ → Bool → Effect
after_fetch bytes regs pc true = Faults 1 pc
after_fetch bytes regs pc false =
    effect_of regs pc (load_at bytes pc 4) (decoded (load_at bytes pc 4))

-- the effect of the instruction at pc
unfoldable pub fetched : (ℕ → Perm) → List ℕ → List ℕ → ℕ → Effect
fetched perm bytes regs pc = after_fetch bytes regs pc (denied perm pc Execute)

-- a trap by a cause
abbrev pub trap : ℕ → ℕ → Outcome
trap cause value = Trap (record { cause = cause; value = value })

-- the answer to an effect
unfoldable pub outcome_of : (ℕ → Perm) → ℕ → Bool → Effect → Outcome
outcome_of perm pc returns (Goes regs target) = Next target
outcome_of perm pc returns (Faults cause value) = trap cause value
outcome_of perm pc returns (Loads place address width rd) =
    if denied perm address Read then trap 5 address else Next (next pc)
outcome_of perm pc returns (Stores place address size value) =
    if denied perm address Write then trap 7 address else Next (next pc)
outcome_of perm pc returns Calls = Call
outcome_of perm pc returns (Jumps rd target) =
    if returns then Back rd target else by_target target (Next target) (trap 0 target)

-- the registers after an effect
unfoldable pub regs_after : (ℕ → Perm) → List ℕ → List ℕ → ℕ → Bool → Effect → List ℕ
regs_after perm bytes regs pc returns (Goes new target) = new
regs_after perm bytes regs pc returns (Faults cause value) = regs
regs_after perm bytes regs pc returns (Loads place address width rd) =
    if denied perm address Read then regs
    else written regs rd (loaded width (load_at bytes address (load_size width)))
regs_after perm bytes regs pc returns (Stores place address size value) = regs
regs_after perm bytes regs pc returns Calls = regs
regs_after perm bytes regs pc returns (Jumps rd target) =
    if returns then regs else by_target target (written regs rd (next pc)) regs

-- RAM's bytes after an effect
unfoldable pub bytes_after : (ℕ → Perm) → List ℕ → Effect → List ℕ
bytes_after perm bytes (Goes new target) = bytes
bytes_after perm bytes (Faults cause value) = bytes
bytes_after perm bytes (Loads place address width rd) = bytes
bytes_after perm bytes (Stores place address size value) =
    if denied perm address Write then bytes else store_at bytes address size value
bytes_after perm bytes Calls = bytes
bytes_after perm bytes (Jumps rd target) = bytes

-- the touch of an effect's access
unfoldable pub touches_of : Effect → List Touch
touches_of (Goes new target) = []
touches_of (Faults cause value) = []
touches_of (Loads place address width rd) =
    record { place = place; address = address; kind = Read } ∷ []
touches_of (Stores place address size value) =
    record { place = place; address = address; kind = Write } ∷ []
touches_of Calls = []
touches_of (Jumps rd target) = []

-- the fetch's touch, at place 0
abbrev pub fetch_touch : ℕ → Touch
fetch_touch pc = record { place = 0; address = pc; kind = Execute }

-- the pc that an instruction leaves is a multiple of 4
abbrev pub IsAligned : Outcome → Type 0
IsAligned (Next pc) = pc % 4 ≡ 0
IsAligned (Trap fault) = Unit {0}
IsAligned Call = Unit {0}
IsAligned (Back rd target) = Unit {0}

-- the cause of a trap is one of an instruction's, and what a return writes is a register
abbrev pub HasCause : Outcome → Type 0
HasCause (Next pc) = Unit {0}
HasCause (Trap fault) = fault.cause < 8
HasCause Call = Unit {0}
HasCause (Back rd target) = rd < 32

-- an instruction of a hart in a state of the machine, by what the state answers of rights: its effect, whether a JAL or JALR is to return,
-- its
-- answer, and the registers and bytes that it leaves
abbrev pub effect_in : Reads → Core → Hart → Effect
effect_in r c hart = fetched (perm_of r c hart.domain) c.ram hart.regs hart.pc

abbrev pub returns_in : Core → Hart → Bool
returns_in c hart = is_return_at c hart.domain hart.pc

abbrev pub outcome_in : Reads → Core → Hart → Outcome
outcome_in r c hart =
    outcome_of (perm_of r c hart.domain) hart.pc (returns_in c hart) (effect_in r c hart)

abbrev pub regs_in : Reads → Core → Hart → List ℕ
regs_in r c hart =
    regs_after (perm_of r c hart.domain) c.ram hart.regs hart.pc (returns_in c hart)
    (effect_in r c hart)

abbrev pub bytes_in : Reads → Core → Hart → List ℕ
bytes_in r c hart = bytes_after (perm_of r c hart.domain) c.ram (effect_in r c hart)

-- the machine's looks for touches of a bus by a domain
abbrev pub looks_of : Core → ℕ → List Touch → List Look
looks_of c d touches = flat_map (λ (t : Touch). looks_at c t.place d t.address) touches

-- what the machine does at an answer that leaves these registers: the hart goes on, traps, makes its call, or is judged at the return gate
abbrev pub action_of : ℕ → Hart → List ℕ → Outcome → Action
action_of h hart regs (Next pc) = Runs regs pc
action_of h hart regs (Trap fault) = Traps fault.cause fault.value
action_of h hart regs Call = Asks (call_of h hart)
action_of h hart regs (Back rd target) = at_return hart rd target
