-- What the parts of a turn do to what a machine holds.
use Rattle.std.specs.Prelude.{ℕ, zero, suc, ◌+◌, Bool, true, false, not, ◌==◌, ◌&&◌, List, ◌∷◌, fold, slice_set, if◌then◌else◌, Option}
use Rattle.std.specs.Prelude.{Some, None, unwrap_or}
use Rattle.mx_words.specs.declared.perm.Perm.{Perm}
use Rattle.mx_table.specs.Tables.{map_of}
use Rattle.mx_check.specs.Calls.{hears}
use Rattle.mx_check.specs.Harts.{Kept, at_hart, leaves_domain}
use Rattle.mx_check.specs.Harts.{halts as counts_as_halted}
use Rattle.mx_check.specs.Looks.{looked_at_address}
use Rattle.mx_core.specs.declared.outcome.Outcome.{Outcome}
use Rattle.mx_core.specs.Bus.{Touch}
use Rattle.mx_core.specs.Exec.{fetched, outcome_of, regs_after, bytes_after, fetch_touch, touches_of}
use Rattle.mx_model.specs.declared.values.Frame.{Frame}
use Rattle.mx_model.specs.Effect.{Effect}
use Rattle.mx_model.specs.Gates.{nearest, top}
use Rattle.mx_supervisor.specs.Parts.{Parts}
use Rattle.mx_machine.specs.declared.hart.Hart.{Hart}
use Rattle.mx_machine.specs.Bus.{perm_from}
use Rattle.mx_machine.specs.Harts.{hart_among, is_halted, stepped}
use Rattle.mx_machine.specs.Held.{Held, area_of, behind}
use Rattle.mx_machine.specs.Steps.{instructed, enters, gives_up, returns_over}

-- one more turn is made
abbrev pub counted : Held → Held
counted m = record m { steps = m.steps + 1 }

-- a step of hart h in the machine, and of what the checker keeps of it
abbrev pub with_step : ℕ → (Hart → Hart) → Held → Held
with_step h step m = record m { harts = stepped h step m.harts }

abbrev pub with_kept : ℕ → (Kept → Kept) → Held → Held
with_kept h step m = record m { parts = record m.parts { harts = at_hart h step m.parts.harts } }

-- hart h hears the others' calls
abbrev pub heard : ℕ → Held → Held
heard h m = record m { parts = record m.parts { harts = hears h m.parts.harts } }

-- the checks of a domain's touches by hart h
abbrev pub looks_all : Parts → ℕ → ℕ → List Touch → List Kept → List Kept
looks_all p h d touches harts =
    fold (λ kept (t : Touch). looked_at_address p.buffer p.kind (map_of p.maps d) h t.place d t.address kept)
    harts touches

-- the permissions of a hart, and the effect of the instruction at its pc
abbrev pub perm_for : Held → Hart → ℕ → Perm
perm_for m x = perm_from m.parts.size m.parts.maps x.domain

abbrev pub effect_for : Held → Hart → Effect
effect_for m x = fetched (perm_for m x) m.parts.ram x.regs x.pc

-- the answer of the instruction at its pc, and what it leaves
abbrev pub outcome_for : Held → ℕ → Bool → Outcome
outcome_for m h returns =
    let x = hart_among m.harts h in
    outcome_of (perm_for m x) x.pc returns (effect_for m x)

abbrev pub after_instruction : ℕ → Bool → Held → Held
after_instruction h returns m =
    let x = hart_among m.harts h in
    record m {
      parts = record m.parts {
        ram = bytes_after (perm_for m x) m.parts.ram (effect_for m x);
        harts =
            looks_all m.parts h x.domain (fetch_touch x.pc ∷ touches_of (effect_for m x))
            m.parts.harts;
      };
      harts =
          stepped h
          (instructed (regs_after (perm_for m x) m.parts.ram x.regs x.pc returns (effect_for m x))
          (outcome_for m h returns)) m.harts;
    }

-- the same where no JAL or JALR is to return, but for the check of the fetch
abbrev pub after_unfetched : ℕ → Held → Held
after_unfetched h m =
    let x = hart_among m.harts h in
    record m {
      parts = record m.parts {
        ram = bytes_after (perm_for m x) m.parts.ram (effect_for m x);
        harts = looks_all m.parts h x.domain (touches_of (effect_for m x)) m.parts.harts;
      };
      harts =
          stepped h
          (instructed (regs_after (perm_for m x) m.parts.ram x.regs x.pc false (effect_for m x))
          (outcome_for m h false)) m.harts;
    }

-- a domain is dead after a fault, where it is killing and the fault is none by 20
abbrev pub dead_after : List Bool → ℕ → Bool → List Bool
dead_after dead d kills = if kills then slice_set dead d true else dead

abbrev pub kills_by : Held → ℕ → ℕ → Bool
kills_by m d cause = (area_of m.stacks d).kills && not (cause == 20)

abbrev pub killed : ℕ → ℕ → Held → Held
killed d cause m = record m { dead = dead_after m.dead d (kills_by m d cause) }

-- what the checker does for a hart that gives up a frame, and for one that has none
abbrev pub gives_up_kept : Option Frame → Kept → Kept
gives_up_kept None = counts_as_halted
gives_up_kept (Some frame) = leaves_domain

-- hart h gives up its top frame after a fault, or is halted
abbrev pub fallen : ℕ → ℕ → Held → Held
fallen h cause m =
    with_kept h (gives_up_kept (top (hart_among m.harts h).frames)) (with_step h (gives_up cause) m)

-- hart h crosses into a domain
abbrev pub crossed : ℕ → ℕ → Held → Held
crossed h target m =
    let stack =
    unwrap_or (nearest (hart_among m.harts h).frames target) (behind m.stacks target h) in
    with_kept h leaves_domain (with_step h (enters target stack) m)

-- hart h returns over its top frame
abbrev pub returned : ℕ → ℕ → Held → Held
returned h rd m = with_kept h leaves_domain (with_step h (returns_over rd) m)

-- what the checker keeps after the halted ones of the first n harts count as halted
abbrev pub halted_first : ℕ → List Hart → List Kept → List Kept
halted_first zero harts kept = kept
halted_first (suc n) harts kept =
    if is_halted (hart_among harts n).progress
    then at_hart n counts_as_halted (halted_first n harts kept)
    else halted_first n harts kept
