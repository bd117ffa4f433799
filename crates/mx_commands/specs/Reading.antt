-- What the reading of a whole file answers.
use Rattle.std.specs.Prelude.{◌≡◌, ℕ, ◌+◌, ◌-◌, ◌≤◌, List, [], length, take, drop, Result, Ok, Err, IfOk, Vec, option_map, ⊤}
use Rattle.std.specs.Result.{result_ok}
use Rattle.std.specs.declared.alloc.Global.{Global}
use Rattle.mx_io.specs.Sink.{SinkState}
use Rattle.mx_io.specs.Answer.{Answer, Gave, Talks}
use Rattle.mx_commands.specs.declared.reading.ReadFault.{ReadFault}
use Rattle.mx_commands.specs.declared.reading.ReadFault.TheVariants as fault
use Rattle.mx_commands.specs.Finding.{Finding, Absent, Large, Short, Broken, Whole, Completes, Finds}
use Rattle.mx_commands.specs.Next.{Wanted, Next, after_file, refusal}
use Rattle.mx_commands.specs.declared.status.Status.{Status}
use Rattle.mx_commands.specs.declared.status.Status.TheVariants.{WantOfMemory, StoreFault, NoFile, ShortFile}
use Rattle.mx_turns.specs.Ends.{Sinks, sinks}
use Rattle.mx_commands.specs.Ends.{WritesNothing, Ends, Continues, Comes}

-- a fact of what was found, where memory was not wanting
abbrev pub OfFinding : (Finding → Type 0) → Result (Vec ℕ Global) ReadFault → Type 0
OfFinding P (Ok bytes) = P (Whole bytes.items)
OfFinding P (Err fault.Absent) = P Absent
OfFinding P (Err fault.Large) = P Large
OfFinding P (Err (fault.Short told got)) = P (Short told got)
OfFinding P (Err fault.Broken) = P Broken
OfFinding P (Err fault.NoMemory) = ⊤

-- a file was read: the answers that the store gave in this call say what is found of it
abbrev pub ReadsFile : {S : Type 0} → (S → Answer → S → Type 0) → ℕ → List ℕ → S → S →
    Result (Vec ℕ Global) ReadFault → Type 0
ReadsFile gives most name store stored result =
    (answers : List Answer) × Talks gives store answers stored
    × OfFinding (λ found. Finds most name answers found) result

-- a file for which a size was told was read
abbrev pub ReadsTold : {S : Type 0} → (S → Answer → S → Type 0) → ℕ → List ℕ → S → S →
    Result (Vec ℕ Global) ReadFault → Type 0
ReadsTold gives told name store stored result =
    (answers : List Answer) × Talks gives store answers stored
    × OfFinding (λ found. Completes name told [] answers found) result

-- one part of a file was put at a place of the bytes, as the answer of the store says; those before it stay
pub record TakesPart {S E : Type 0} (gives : S → Answer → S → Type 0) (name : List ℕ) (at : ℕ)
    (store stored : S) (old now : List ℕ) (result : Result ℕ E) : Type 0 where
  pub step : gives store (Gave name at (length old - at)
      (option_map (λ k. take k (drop at now)) (result_ok result))) stored
  pub bound : IfOk result (λ k. at + k ≤ length old)
  pub front : take at now ≡ take at old

-- a file that isn't whole ends the call with its line; where memory was wanting nothing is written
abbrev pub Refuses : Wanted → ReadFault → Sinks → Sinks → Status → Type 0
Refuses file fault.Absent before now result
    = Ends (refusal file.name (NoFile file.role)) before now result
Refuses file fault.Large before now result = Ends (refusal file.name file.large) before now result
Refuses file (fault.Short told got) before now result
    = Ends (refusal file.name (ShortFile file.role told got)) before now result
Refuses file fault.Broken before now result = Ends (refusal file.name StoreFault) before now result
Refuses file fault.NoMemory before now result = (result ≡ WantOfMemory) × WritesNothing before now

-- a file was taken: its bytes came, the report is as it was, and the step goes on with them; or the call ended
abbrev pub Takes : {S : Type 0} → (S → Answer → S → Type 0) → Wanted → S → S → SinkState →
    SinkState → Result (Vec ℕ Global) Status → Type 0
Takes gives file store stored before now (Ok bytes) =
    (now ≡ before) × ((rest : List ℕ → List Finding → Next) →
    Comes (after_file file rest) gives store stored (rest bytes.items))
Takes gives file store stored before now (Err status) =
    (rest : List ℕ → List Finding → Next) (console dump : SinkState)
    → Continues (after_file file rest) gives store stored (sinks console before dump)
    (sinks console now dump) status
