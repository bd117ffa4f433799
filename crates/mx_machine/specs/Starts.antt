-- With what a machine starts or resumes, and the flat state that it then is.
use Rattle.std.specs.Prelude.{◌≡◌, ℕ, ◌+◌, ◌-◌, ◌*◌, ◌%◌, ◌^◌, ◌<◌, ◌≤◌, ◌⊎◌, Bool, true, false, List, [], ◌∷◌, length, replicate}
use Rattle.std.specs.Prelude.{slice_index, slice_index_or, slice_set, Option, Some, None}
use Rattle.std.specs.List.{AllByRecursion}
use Rattle.std.specs.Prelude.{map as list_map}
use Rattle.mx_words.specs.Announced.{is_announced}
use Rattle.mx_words.specs.Caches.{no_cache}
use Rattle.mx_words.specs.Limits.{most_domains}
use Rattle.mx_table.specs.Tables.{IsDomain}
use Rattle.mx_check.specs.Calls.{new_harts}
use Rattle.mx_check.specs.Harts.{Kept, kept_at}
use Rattle.mx_check.specs.declared.flight.Flight.{Flight}
use Rattle.mx_model.specs.declared.values.Frame.{Frame}
use Rattle.mx_model.specs.State.{Flat}
use Rattle.mx_supervisor.specs.Parts.{Parts}
use Rattle.mx_supervisor.specs.Served.{range_of}
use Rattle.mx_machine.specs.declared.hart.Hart.{Hart}
use Rattle.mx_machine.specs.declared.hart.Progress.{Progress}
use Rattle.mx_machine.specs.declared.hart.Progress.TheVariants as G
use Rattle.mx_machine.specs.declared.starts.HartStart.{HartStart}
use Rattle.mx_machine.specs.declared.starts.HartState.{HartState}
use Rattle.mx_machine.specs.declared.starts.StackArea.{StackArea}
use Rattle.mx_machine.specs.declared.views.HartStatus.{HartStatus}
use Rattle.mx_machine.specs.declared.views.HartStatus.TheVariants as V
use Rattle.mx_machine.specs.Harts.{no_held_hart, seen_from, own_call}
use Rattle.mx_machine.specs.Held.{behind, state_of}
use Rattle.mx_machine.specs.Ties.{HasRange}

-- no domain is dead
abbrev pub none_dead : List Bool
none_dead = replicate most_domains false

-- a hart starts at a pc in a domain, with all registers zero but x2, the address after the domain's stack area for the hart
abbrev pub started_hart : List StackArea → ℕ → HartStart → Hart
started_hart stacks h s = record no_held_hart {
  regs = slice_set (replicate 32 0) 2 (behind stacks s.domain h);
  pc = s.pc;
  domain = s.domain;
  progress = G.Running;
}

-- the harts from hart h on
abbrev pub started_from : List StackArea → ℕ → List HartStart → List Hart
started_from stacks h [] = []
started_from stacks h (s ∷ rest) = started_hart stacks h s ∷ started_from stacks (h + 1) rest

-- the flat state of a machine that starts: no domain is dead and no turn is made
abbrev pub started : Parts → List HartStart → List StackArea → Flat
started p starts stacks =
    state_of p (seen_from 0 (started_from stacks 0 starts) p.harts) stacks none_dead 0

-- a hart resumes; one that is halted has no exit code
abbrev pub progress_of : HartStatus → Progress
progress_of V.Running = G.Running
progress_of V.Waiting = G.Waiting
progress_of V.Halted = G.Halted None

abbrev pub resumed_hart : HartState → Hart
resumed_hart s =
    record {
      regs = s.regs;
      pc = s.pc;
      domain = s.domain;
      frames = s.frames;
      progress = progress_of s.status;
    }

-- the flat state of a machine that resumes: a waiting hart's call is that of its registers, and the checker keeps who has heard it
abbrev pub resumed : Parts → List HartState → List StackArea → List Bool → ℕ → Flat
resumed p states stacks dead steps =
    state_of p (seen_from 0 (list_map resumed_hart states) p.harts) stacks dead steps

-- a stack area of no words, or one that lies in RAM for all harts
abbrev pub IsStack : ℕ → ℕ → StackArea → Type 0
IsStack size harts a = (a.words ≡ 0) ⊎ (a.first + a.words * harts ≤ size)

-- a hart starts in a module at a multiple of 4
pub record IsStart (p : Parts) (s : HartStart) : Type 0 where
  pub domain : IsDomain p.maps s.domain
  pub pc : s.pc % 4 ≡ 0

-- a machine may start with these: one start for each hart of the checker, which has done nothing yet, and one stack area for each module
pub record MayStart (p : Parts) (starts : List HartStart) (stacks : List StackArea) : Type 0 where
  pub some_harts : 1 ≤ length starts
  pub new : p.harts ≡ new_harts (length starts)
  pub each : AllByRecursion (IsStart p) starts
  pub count : length stacks ≡ length p.maps
  pub areas : AllByRecursion (IsStack p.size (length starts)) stacks

-- what a hart resumes with: module and pc as at a start, x0 zero, and frames that lead back to a module at a multiple of 4
pub record IsBackPlace (p : Parts) (f : Frame) : Type 0 where
  pub back : f.back % 4 ≡ 0
  pub caller : IsDomain p.maps f.caller

pub record IsHartState (p : Parts) (s : HartState) : Type 0 where
  pub domain : IsDomain p.maps s.domain
  pub pc : s.pc % 4 ≡ 0
  pub x0 : slice_index s.regs 0 ≡ 0
  pub frames : AllByRecursion (IsBackPlace p) s.frames

-- the call of hart h in flight is that of the hart's registers
pub record IsCallOf (p : Parts) (h : ℕ) (s : HartState) (f : Flight) : Type 0 where
  pub announced : is_announced (own_call h (resumed_hart s)).number ≡ true
  pub range : HasRange (range_of p (own_call h (resumed_hart s))) f

-- a call of hart h is in flight exactly where the hart waits
abbrev pub FliesIfWaiting : Parts → ℕ → HartState → HartStatus → Option Flight → Type 0
FliesIfWaiting p h s V.Running flight = flight ≡ None
FliesIfWaiting p h s V.Waiting None = ⊥
FliesIfWaiting p h s V.Waiting (Some f) = IsCallOf p h s f
FliesIfWaiting p h s V.Halted flight = flight ≡ None

-- the checker has done nothing yet for hart h but announce the call on which it waits
pub record IsUnused (p : Parts) (h : ℕ) (s : HartState) (k : Kept) : Type 0 where
  pub cache : k.cache ≡ no_cache
  pub halted : k.halted ≡ false
  pub domain : k.domain ≡ None
  pub flight : FliesIfWaiting p h s s.status k.flight

-- what is read of a state after the last
abbrev pub no_state : HartState
no_state = record { status = V.Halted; domain = 0; pc = 0; regs = replicate 32 0; frames = [] }

-- a machine may resume with these
pub record MayResume (p : Parts) (states : List HartState) (stacks : List StackArea)
    (dead : List Bool) (steps : ℕ) : Type 0 where
  pub some_harts : 1 ≤ length states
  pub same_harts : length p.harts ≡ length states
  pub each : AllByRecursion (IsHartState p) states
  pub unused : (h : ℕ) → h < length states →
      IsUnused p h (slice_index_or states h no_state) (kept_at p.harts h)
  pub count : length stacks ≡ length p.maps
  pub areas : AllByRecursion (IsStack p.size (length states)) stacks
  pub dead_modules : (d : ℕ) → slice_index_or dead d false ≡ true → IsDomain p.maps d
  pub few_steps : steps ≤ 2 ^ 63 - 1
