-- What two states share for a hart, and where its turns end to depend on that alone.
-- The rules: docs/MACHINE.md, "Agreement".
use Rattle.std.specs.Prelude.{◌≡◌, ℕ, ◌+◌, ◌-◌, ◌*◌, ◌/◌, ◌<◌, Bool, true, false, slice_index, if◌then◌else◌, Option, Some, None, IsTrue}
use Rattle.mx_words.specs.declared.perm.Access.TheVariants as A
use Rattle.mx_words.specs.Ranges.{ram_base}
use Rattle.mx_words.specs.Rights.{allows}
use Rattle.mx_isa.specs.declared.inst.Inst.{Inst}
use Rattle.mx_isa.specs.Table.{decoded}
use Rattle.mx_model.specs.Effect.{Effect, Goes, Faults, Loads, Stores, Calls, Jumps, effect, by_target, reg}
use Rattle.mx_model.specs.Gates.{gate_target}
use Rattle.mx_model.specs.Reads.{Reads, reads, flat_reads}
use Rattle.mx_model.specs.State.{Core, Hart, Status, Running, Waiting, Halted, State, Flat, module_at, hart_at}
use Rattle.mx_model.specs.Turn.{call_gate_at, is_return_at, is_denied, load_at}

-- a status without the call, the hearing and the exit code
pub data Standing : Type 0 where
  Runs : Standing
  Waits : Standing
  Ended : Standing

abbrev pub standing : Status → Standing
standing Running = Runs
standing (Waiting call heard) = Waits
standing (Halted code) = Ended

-- the target of the gate for a domain at a word
abbrev pub target_at : Core → ℕ → ℕ → Option ℕ
target_at c d word = gate_target c.gates d word

-- two states, each with what it answers of rights, agree for hart h: the hart has the same standing, pc, registers and domain d; d has the
-- same
-- permission on every word; d is dead in both or in neither; the gates of d are the same pairs of word and target; and the bytes of
-- each word that d may read are the same
pub record Agrees (r : Reads) (c : Core) (q : Reads) (e : Core) (h : ℕ) : Type 0 where
  pub same_standing : standing (hart_at c h).status ≡ standing (hart_at e h).status
  pub same_pc : (hart_at c h).pc ≡ (hart_at e h).pc
  pub same_regs : (hart_at c h).regs ≡ (hart_at e h).regs
  pub same_domain : (hart_at c h).domain ≡ (hart_at e h).domain
  pub same_map : (i : ℕ) → r.perm (hart_at c h).domain i ≡ q.perm (hart_at c h).domain i
  pub same_death : (module_at c (hart_at c h).domain).dead ≡ (module_at e (hart_at c h).domain).dead
  pub same_gates : (i : ℕ) → target_at c (hart_at c h).domain i ≡ target_at e (hart_at c h).domain i
  pub same_bytes : (i : ℕ) → IsTrue (allows (r.perm (hart_at c h).domain i) A.Read) →
      (k : ℕ) → k < 4 → slice_index c.ram (4 * i + k) ≡ slice_index e.ram (4 * i + k)

-- what ends the dependence of a hart's turns on what it agrees on
pub data Border : Type 0 where
  -- the turn faults
  Trap : (cause value : ℕ) → Border
  -- a call gate stands at pc
  AtGate : (word target x1 : ℕ) → Border
  -- a JAL or JALR stands at a return gate
  Back : (pc target : ℕ) → Border
  -- a supervisor call
  Call : (number a0 a1 a2 a3 : ℕ) → Border
  -- nothing
  Nothing : Border

abbrev pub border_of_effect : Reads → Core → Hart → Effect → Border
border_of_effect r c hart (Goes regs pc) = Nothing
border_of_effect r c hart (Faults cause value) = Trap cause value
border_of_effect r c hart (Loads p address width rd) =
    if is_denied r c hart.domain address A.Read then Trap 5 address else Nothing
border_of_effect r c hart (Stores p address size value) =
    if is_denied r c hart.domain address A.Write then Trap 7 address else Nothing
border_of_effect r c hart Calls =
    Call (reg hart.regs 17) (reg hart.regs 10) (reg hart.regs 11) (reg hart.regs 12)
    (reg hart.regs 13)
border_of_effect r c hart (Jumps rd target) =
    if is_return_at c hart.domain hart.pc then Back hart.pc target
    else by_target target Nothing (Trap 0 target)

abbrev pub border_of_word : Reads → Core → Hart → ℕ → Option Inst → Border
border_of_word r c hart word None = Trap 2 word
border_of_word r c hart word (Some inst) = border_of_effect r c hart (effect inst hart.regs hart.pc)

abbrev pub border_of_fetch : Reads → Core → Hart → Bool → Border
border_of_fetch r c hart true = Trap 1 hart.pc
border_of_fetch r c hart false =
    let word = load_at c hart.pc 4 in border_of_word r c hart word (decoded word)

abbrev pub border_of_gate : Reads → Core → Hart → Option ℕ → Border
border_of_gate r c hart (Some target) = AtGate ((hart.pc - ram_base) / 4) target (reg hart.regs 1)
border_of_gate r c hart None =
    border_of_fetch r c hart (is_denied r c hart.domain hart.pc A.Execute)

abbrev pub border_in : Reads → Core → Hart → Bool → Border
border_in r c hart true = Trap 20 hart.pc
border_in r c hart false = border_of_gate r c hart (call_gate_at c hart.domain hart.pc)

-- the border of a running hart
abbrev pub border : Reads → Core → ℕ → Border
border r c h = border_in r c (hart_at c h) (module_at c (hart_at c h).domain).dead

-- of two states, and of two flat states
abbrev pub agree : State → State → ℕ → Type 0
agree s t h = Agrees (reads s) s.core (reads t) t.core h

abbrev pub flat_agree : Flat → Flat → ℕ → Type 0
flat_agree s t h = Agrees (flat_reads s) s.core (flat_reads t) t.core h
