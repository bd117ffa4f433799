-- What denies an access, by a domain's grants alone; and what a turn that faults, and a call that is answered, show.
-- The rules: docs/MACHINE.md, "Memory, domains, harts", "One turn", "Faults" and "Supervisor calls".
use Rattle.std.specs.Prelude.{◌≡◌, ◌≢◌, ◌↔◌, ℕ, ◌+◌, ◌-◌, ◌*◌, ◌/◌, ◌%◌, ◌^◌, ◌<◌, ◌≤◌, false, List, ◌∷◌, ◌++◌, Some, None}
use Rattle.std.specs.List.{AllByRecursion}
use Rattle.mx_words.specs.declared.perm.Access.{Access}
use Rattle.mx_words.specs.declared.perm.Access.TheVariants as A
use Rattle.mx_words.specs.Bytes.{number_at}
use Rattle.mx_words.specs.Newest.{Grant}
use Rattle.mx_words.specs.Ranges.{ram_base}
use Rattle.mx_words.specs.Rights.{allows}
use Rattle.mx_isa.specs.declared.inst.Inst.{Inst}
use Rattle.mx_isa.specs.declared.inst.Inst.TheVariants.{Ecall}
use Rattle.mx_isa.specs.Table.{decoded}
use Rattle.mx_model.specs.declared.values.Note.TheVariants as N
use Rattle.mx_model.specs.declared.values.TurnKind.TheVariants as T
use Rattle.mx_model.specs.Effect.{reg}
use Rattle.mx_model.specs.Reads.{Reads, grants_of, reads}
use Rattle.mx_model.specs.Serve.{code}
use Rattle.mx_model.specs.State.{Core, Hart, State, hart_at, module_at}
use Rattle.mx_model.specs.Turn.{Made, call_gate_at, turned}
use Rattle.mx_laws.specs.After.{domain_at, hart_after}
use Rattle.mx_laws.specs.Twins.{IsRunning}

-- a grant covers a word; and none of these does
pub record Covers (g : Grant) (word : ℕ) : Type 0 where
  pub from : g.first ≤ word
  pub below : word < g.first + g.count

abbrev pub NoneCovers : List Grant → ℕ → Type 0
NoneCovers grants word = AllByRecursion (λ g. Covers g word → ⊥) grants

-- the number of the word that holds an address
abbrev pub word_at : ℕ → ℕ
word_at address = (address - ram_base) / 4

-- an access of domain d at an address is denied: outside RAM; or where no grant of d covers the word; or where the
-- newest that does doesn't allow it
pub data IsDenied (s : State) (d address : ℕ) (access : Access) : Type 0 where
  Below : address < ram_base → IsDenied s d address access
  Above : ram_base + 4 * s.core.size ≤ address → IsDenied s d address access
  Uncovered : NoneCovers (grants_of s.grants d) (word_at address) → IsDenied s d address access
  ByNewest : (older : List Grant) (g : Grant) (newer : List Grant) →
      grants_of s.grants d ≡ older ++ g ∷ newer → Covers g (word_at address) →
      NoneCovers newer (word_at address) → allows g.value access ≡ false →
      IsDenied s d address access

-- a turn is a fault by a cause with a value: its kind, and the note of its number, of the hart, and of the domain and
-- pc that the hart had before
pub record IsTrap (m : Made) (turn h : ℕ) (hart : Hart) (cause value : ℕ) : Type 0 where
  pub kind : m.kind ≡ T.Trapped
  pub note : m.note
      ≡ Some (N.Fault turn h hart.domain hart.pc (record { cause = cause; value = value }))

abbrev pub TrapsWith : Reads → Core → ℕ → ℕ → ℕ → Type 0
TrapsWith r c h cause value = IsTrap (turned r c h) (c.turns + 1) h (hart_at c h) cause value

abbrev pub traps_with : State → ℕ → ℕ → ℕ → Type 0
traps_with s h cause value = TrapsWith (reads s) s.core h cause value

-- hart h runs in a live domain, and no call gate stands at its pc
pub record Fetches (s : State) (h : ℕ) : Type 0 where
  pub running : IsRunning s.core h
  pub live : (module_at s.core (domain_at s.core h)).dead ≡ false
  pub no_gate : call_gate_at s.core (domain_at s.core h) (hart_at s.core h).pc ≡ None

-- its fetch isn't denied, and the word at its pc is an instruction
pub record Executes (s : State) (h : ℕ) (inst : Inst) : Type 0 where
  pub fetches : Fetches s h
  pub allowed : IsDenied s (domain_at s.core h) (hart_at s.core h).pc A.Execute → ⊥
  pub word : decoded (number_at s.core.ram ((hart_at s.core h).pc - ram_base) 4) ≡ Some inst

-- register i of hart h, and the address that an offset to it makes
abbrev pub register_of : Core → ℕ → ℕ → ℕ
register_of c h i = reg (hart_at c h).regs i

abbrev pub address_by : State → ℕ → ℕ → ℕ → ℕ
address_by s h base offset = (register_of s.core h base + offset) % 2 ^ 32

-- an access of so many bytes by hart h at an address: aligned, it traps by the one cause exactly where it is denied;
-- misaligned, by the other
pub record FaultsExactly (s : State) (h address size : ℕ) (access : Access) (denied crooked : ℕ)
    : Type 0 where
  pub aligned : address % size ≡ 0 →
      traps_with s h denied address ↔ IsDenied s (domain_at s.core h) address access
  pub misaligned : address % size ≢ 0 → traps_with s h crooked address

-- hart h makes the call of that number
pub record MakesCall (s : State) (h number : ℕ) : Type 0 where
  pub executes : Executes s h Ecall
  pub asked : register_of s.core h 17 ≡ number

-- bytes that lie in RAM; and one of them that a domain may not access
abbrev pub InRam : State → ℕ → ℕ → Type 0
InRam s first count =
    (k : ℕ) → k < count → (ram_base ≤ first + k) × (first + k < ram_base + 4 * s.core.size)

pub record SomeDenied (s : State) (d first count : ℕ) (access : Access) : Type 0 where
  pub byte : ℕ
  pub inside : byte < count
  pub denied : IsDenied s d (first + byte) access

-- hart h has -12 in x10 after its turn
abbrev pub answers_no_right : State → ℕ → Type 0
answers_no_right s h = reg (hart_after (reads s) s.core h).regs 10 ≡ code 12
