-- What a part of a turn makes of a machine.
use Rattle.std.specs.Prelude.{◌≡◌, ℕ, None}
use Rattle.mx_model.specs.declared.values.TurnKind.{TurnKind}
use Rattle.mx_model.specs.Events.{Events}
use Rattle.mx_model.specs.Reads.{Reads, flat_reads}
use Rattle.mx_model.specs.Run.{maps_after, owners_after}
use Rattle.mx_model.specs.State.{Core, Hart, hart_at}
use Rattle.mx_model.specs.Turn.{Action, Made, acted, decide, enacted, runs_at}
use Rattle.mx_machine.specs.Held.{Held, meaning}

-- the machine, the events and the answer are what is made
pub record IsMade (old new : Held) (events : Events) (answer : TurnKind) (m : Made) : Type 0 where
  pub core : (meaning new).core ≡ m.core
  pub maps : new.parts.maps ≡ maps_after old.parts.maps m.change
  pub owners : new.parts.owners ≡ owners_after old.parts.owners m.give
  pub console : events.bytes ≡ m.console
  pub note : events.note ≡ m.note
  pub kind : answer ≡ m.kind

-- what a machine answers of rights, its state, and a hart of it
abbrev pub reads_of : Held → Reads
reads_of m = flat_reads (meaning m)

abbrev pub core_in : Held → Core
core_in m = (meaning m).core

abbrev pub hart_in : Held → ℕ → Hart
hart_in m h = hart_at (core_in m) h

-- what an action of hart h makes of a machine
abbrev pub made_by : Held → ℕ → Action → Made
made_by m h action = acted (reads_of m) (core_in m) h (hart_in m h) action

-- what an instruction of hart h makes, where no call gate stands at its pc
abbrev pub instruction : Held → ℕ → Made
instruction m h =
    enacted (reads_of m) (core_in m) h (runs_at (reads_of m) (core_in m) h (hart_in m h) None)

-- what hart h makes that has heard the others' calls
abbrev pub made_after_hearing : Held → ℕ → Made
made_after_hearing m h = enacted (reads_of m) (core_in m) h (decide (reads_of m) (core_in m) h)
