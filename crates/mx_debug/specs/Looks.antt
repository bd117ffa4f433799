-- A machine on which a session looks, and what is said while the run goes on.
use Rattle.std.specs.Prelude.{◌≡◌, ℕ, zero, suc, ◌+◌, ◌-◌, ◌^◌, ◌<◌, ◌≤◌, Bool, true, false, not, ◌&&◌, nat_lt, List, [], ◌++◌, Option}
use Rattle.std.specs.Prelude.{Some, None, Result, Ok, Err, if◌then◌else◌}
use Rattle.mx_model.specs.declared.values.Note.{Note}
use Rattle.mx_model.specs.declared.values.TurnKind.{TurnKind}
use Rattle.mx_model.specs.Run.{Schedule}
use Rattle.mx_model.specs.State.{Flat, Hart, State, flat}
use Rattle.mx_boot.specs.Boot.{boot_of}
use Rattle.mx_boot.specs.Inputs.{AreInputs}
use Rattle.mx_turns.specs.Running.{HasTurns, schedule_of}
use Rattle.mx_debug_texts.specs.Documents.{Known}
use Rattle.mx_debug.specs.declared.again.Origin.{Origin}
use Rattle.mx_debug.specs.declared.course.Course.{Course}
use Rattle.mx_packets.specs.Lines.{Fails, Speaks}
use Rattle.mx_debug.specs.declared.search.Asking.{Asking}
use Rattle.mx_debug.specs.declared.stop.Found.{Found}
use Rattle.mx_debug.specs.declared.stop.Step.{Step}
use Rattle.mx_debug.specs.declared.stop.Stop.{Stop}
use Rattle.mx_debug.specs.declared.stop.Stop.TheVariants as S
use Rattle.mx_debug.specs.Session.{Asked, Looked, bytes_at, ends_at, faults_at, is_last, is_trapped, state_at}
use Rattle.mx_debug.specs.Texts.{shown_said}

-- what is known of a boot
abbrev pub known_of : Origin → Known
known_of origin = record { plan = origin.plan.now; images = origin.images.now }

-- a run by this schedule, of at most so many turns
pub record IsRunBy (q : Looked) (by : Schedule) (turns : ℕ) : Type 0 where
  pub schedule : q.schedule ≡ by
  pub most : q.most ≡ turns

-- the run of a course
pub record IsRunOf (q : Looked) (course : Course) : Type 0 where
  pub schedule : q.schedule ≡ schedule_of course.schedule
  pub most : q.most ≡ course.most.count
  pub known : q.known ≡ known_of course.origin
  pub boots : boot_of course.origin.plan.now course.origin.images.now course.origin.inputs.now ≡ Ok q.start

-- a course of a plan that boots, whose schedule names harts
pub record IsCourse (course : Course) : Type 0 where
  pub inputs : AreInputs course.origin.plan.now course.origin.inputs.now
  pub boots : (s : State) × (boot_of course.origin.plan.now course.origin.images.now course.origin.inputs.now ≡ Ok s)
  pub turns : HasTurns course.schedule

-- a machine after so many turns of it
abbrev pub IsAt : Looked → ℕ → Flat → Type 0
IsAt q k machine = machine ≡ flat (state_at q k)

-- the bytes that the turn from there adds to the console, unless those of more turns were told
abbrev pub news : ℕ → ℕ → List ℕ → List ℕ
news told k bytes = if nat_lt k told then [] else bytes

abbrev pub news_at : Looked → ℕ → ℕ → List ℕ
news_at q told k = news told k (bytes_at q k)

-- what is said of the console while so many turns are made from there on
abbrev pub shows : Looked → ℕ → ℕ → ℕ → List ℕ
shows q told k zero = []
shows q told k (suc n) = shown_said (news_at q told k) ++ shows q told (k + 1) n

-- what is said until the run stops
abbrev pub shows_to : Looked → ℕ → ℕ → ℕ × Stop → List ℕ
shows_to q told k found = shows q told k (found.0 - k)

-- the number of turns that a machine made where a search left it: it stands where the run stops, or one turn past that
abbrev pub place_of : Found → ℕ
place_of found = if found.past then found.made + 1 else found.made

-- a stop before a turn that traps, where faults stop the run: there alone a search may make that turn
pub record IsPast (q : Looked) (a : Asked) (to : ℕ × Stop) : Type 0 where
  pub asked : a.faults ≡ true
  pub going : ends_at q to.0 ≡ false
  pub traps : faults_at q to.0 ≡ true

-- the run went on to where it stops first, and what it showed was said; or the line failed on that. The machine is past a place only
-- where the next turn traps and that stops the run
pub record IsFound {L : Type 0} (says : L → List ℕ → L → Type 0) (room : L → ℕ) (q : Looked) (a : Asked) (told from : ℕ)
    (to : ℕ × Stop) (machine : Flat) (l m : L) (found : Found) : Type 0 where
  pub first : (found.made, found.stop) ≡ to
  pub place : IsAt q (place_of found) machine
  pub past : found.past ≡ true → IsPast q a to
  pub said : Speaks says room l (shows_to q told from to) m

abbrev pub Finds : {L E : Type 0} → (L → List ℕ → L → Type 0) → (L → ℕ) → Looked → Asked → ℕ → ℕ → ℕ × Stop →
    Flat → L → L → Result Found E → Type 0
Finds says room q a told from to machine l m (Ok found) = IsFound says room q a told from to machine l m found
Finds says room q a told from to machine l m (Err e) = Fails says room l (shows_to q told from to) m

-- what the code asks
abbrev pub asked_by : Asking → Asked
asked_by asking = record { breaks = asking.breaks.now; faults = asking.faults; step = asking.step }

-- why a row of turns stops before its last turn: that begins at a breakpoint, or traps and notes this
abbrev pub stop_past : Bool → Bool → Bool → ℕ → TurnKind → Option Note → Option Stop
stop_past faults faulted stood hart last noted =
    if stood then Some (S.Breaks hart)
    else if faults && is_trapped last && not faulted then Some (S.Faults hart noted)
    else None

-- why a row of turns stops after its last turn: that ends the step that is asked
abbrev pub row_stop : Option Step → ℕ → TurnKind → Hart → Option Stop
row_stop step hart last after = if is_last step hart last after then Some (S.Steps hart) else None

-- a machine's turns are no more than those of its place, which are no more than those of the run
pub record IsFit (most made : ℕ) (machine : Flat) : Type 0 where
  pub few : machine.core.turns ≤ made
  pub within : made ≤ most
