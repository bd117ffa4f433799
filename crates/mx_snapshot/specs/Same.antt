-- What a snapshot keeps of a state: all but exit codes, what caches keep and count, console bytes and notes.
-- The rules: docs/MACHINE.md, "States that are the same".
use Rattle.std.specs.Prelude.{◌≡◌, [], None}
use Rattle.std.specs.Prelude.{map as list_map}
use Rattle.mx_model.specs.State.{Core, Hart, Status, Running, Waiting, Halted, State, Flat, flat}

-- a status without its exit code
abbrev pub without_code : Status → Status
without_code Running = Running
without_code (Waiting call heard) = Waiting call heard
without_code (Halted code) = Halted None

abbrev pub bare_hart : Hart → Hart
bare_hart hart = record hart { status = without_code hart.status }

-- a core without exit codes, and with no caches
abbrev pub bare : Core → Core
bare c = record c { harts = list_map bare_hart c.harts; caches = [] }

-- a flat state without exit codes, and with no caches
abbrev pub bare_flat : Flat → Flat
bare_flat f = record f { core = bare f.core }

-- two flat states are the same: they are equal but for exit codes and caches
abbrev pub AreSame : Flat → Flat → Type 0
AreSame f g = bare_flat f ≡ bare_flat g

-- a state with no console bytes and no notes
abbrev pub silent : State → State
silent s = record s { console = []; notes = [] }

-- t takes s up: their flat states are the same, and t has no console bytes and no notes
pub record TakesUp (s t : State) : Type 0 where
  pub same : AreSame (flat s) (flat t)
  pub console : t.console ≡ []
  pub notes : t.notes ≡ []
