-- What serving a call means: the answer and the parts afterwards are those that the model's call gives on the flat state.
use Rattle.std.specs.Prelude.{◌≡◌, ℕ, ◌+◌, ◌<◌, ◌≤◌, true, false, List, [], length, if◌then◌else◌, Option, None, IfSome}
use Rattle.mx_words.specs.Announced.{announced, is_announced}
use Rattle.mx_table.specs.declared.tables.PermTables.{Ghosts}
use Rattle.mx_check.specs.declared.flight.Flight.{Flight}
use Rattle.mx_check.specs.Calls.{is_ready}
use Rattle.mx_check.specs.Conditions.{MayLook}
use Rattle.mx_check.specs.Harts.{kept_at, Kept}
use Rattle.mx_model.specs.declared.values.Call.{Call}
use Rattle.mx_model.specs.Checks.{arg}
use Rattle.mx_model.specs.Reads.{Reads, flat_reads}
use Rattle.mx_model.specs.Run.{maps_after, owners_after}
use Rattle.mx_model.specs.Serve.{Served, served_by, service}
use Rattle.mx_model.specs.State.{Core}
use Rattle.mx_supervisor.specs.declared.answer.Answer.{Answer}
use Rattle.mx_supervisor.specs.declared.supervisor.Supervisor.{Supervisor}
use Rattle.mx_supervisor.specs.Answers.{is_refusal}
use Rattle.mx_supervisor.specs.Heaps.{heap_at}
use Rattle.mx_supervisor.specs.Parts.{Parts, parts_of, core_of, flat_of, IsSound}
use Rattle.mx_supervisor.specs.Looks.{BarsAlike, KeepsHarts}

-- the range that an announced call may change
abbrev pub range_of : Parts → Call → ℕ × ℕ
range_of p call =
    let heap = (heap_at p.heaps call.domain).area in
    announced call.number (arg call 0) (arg call 1) p.size (heap.first, heap.count)

-- a range lies in another
abbrev pub IsIn : ℕ → ℕ → ℕ × ℕ → Type 0
IsIn first count range = (range.0 ≤ first) × (first + count ≤ range.0 + range.1)

-- the call is in flight with its range, and may take effect
pub record HasAnnounced (p : Parts) (call : Call) : Type 0 where
  pub hart : call.hart < length p.harts
  pub ready : is_ready call.hart p.harts ≡ true
  pub range : IfSome (kept_at p.harts call.hart).flight
      (λ f. (f.first ≡ (range_of p call).0) × (f.count ≡ (range_of p call).1))

-- a call may be served: it was announced and is ready, or its hart may look at words
pub record MayServe (p : Parts) (call : Call) : Type 0 where
  pub announced : is_announced call.number ≡ true → HasAnnounced p call
  pub other : is_announced call.number ≡ false → MayLook call.hart call.domain p.harts

-- the parts, the console bytes and the answer after a call are what it was served
pub record IsServed (rest : Core) (old new : Parts) (bytes : List ℕ) (answer : Answer) (s : Served)
    : Type 0 where
  pub core : core_of rest new ≡ s.core
  pub maps : new.maps ≡ maps_after old.maps s.change
  pub owners : new.owners ≡ owners_after old.owners s.give
  pub console : bytes ≡ s.console
  pub a0 : answer.a0 ≡ s.a0
  pub a1 : answer.a1 ≡ s.a1
  pub stop : answer.stop ≡ s.stop

-- a call is served as the model's: in every state with these parts, whose harts let the caller keep what its checker lets it keep
abbrev pub ServesAs : (Reads → Core → Call → Served) → Call → Parts → Parts → List ℕ → Answer →
    Type 0
ServesAs row call old new bytes answer =
    (rest : Core) → BarsAlike rest old call.hart →
    IsServed rest old new bytes answer
    (row (flat_reads (flat_of rest old)) (core_of rest old) call)

-- nothing but caches, the caller's call in flight and its answer changed
pub record IsSpared (old new : Parts) (bytes : List ℕ) : Type 0 where
  pub maps : new.maps ≡ old.maps
  pub owners : new.owners ≡ old.owners
  pub gates : new.gates ≡ old.gates
  pub heaps : new.heaps ≡ old.heaps
  pub ram : new.ram ≡ old.ram
  pub console : bytes ≡ []

-- words, limit and modules stay
pub record KeepsSizes (old new : Parts) : Type 0 where
  pub size : new.size ≡ old.size
  pub limit : new.limit ≡ old.limit
  pub modules : length new.maps ≡ length old.maps

-- the caller's call in flight after it was served
abbrev pub flight_after : Call → List Kept → Option Flight
flight_after call harts =
    if is_announced call.number then None else (kept_at harts call.hart).flight

-- all that is said of a call, where a flight is the caller's afterwards
pub record Meets (row : Reads → Core → Call → Served) (call : Call) (after : Option Flight)
    (old new : Parts) (bytes : List ℕ) (answer : Answer) : Type 0 where
  pub served : ServesAs row call old new bytes answer
  pub refused : is_refusal answer ≡ true → IsSpared old new bytes
  pub harts : KeepsHarts call after old.harts new.harts
  pub sizes : KeepsSizes old new
  pub sound : IsSound new

-- a row of the table of calls, by which the caller's call stays in flight
abbrev pub Does : {T : Type 0} {N : ℕ} → Ghosts T → Supervisor T N → Supervisor T N →
    (Reads → Core → Call → Served) → Call → List ℕ → Answer → Type 0
Does tables old new row call bytes answer =
    Meets row call (kept_at old.checker.harts call.hart).flight
    (parts_of tables old) (parts_of tables new) bytes answer

-- a call by its row, without the end of its flight
abbrev pub served_row : Reads → Core → Call → Served
served_row r c call = served_by (service call.number) r c call
