-- Windows: addresses at which a hart's turns fetch by its place 0, and no gate stands.
use Rattle.std.specs.Prelude.{◌≡◌, ℕ, ◌+◌, ◌^◌, ◌≤◌, true, false, None}
use Rattle.mx_words.specs.Ranges.{covers}
use Rattle.mx_check.specs.Conditions.{IsAtHand}
use Rattle.mx_check.specs.Harts.{kept_at}
use Rattle.mx_model.specs.declared.values.TurnKind.TheVariants as T
use Rattle.mx_model.specs.Events.{Events, no_events}
use Rattle.mx_model.specs.Run.{flat_made}
use Rattle.mx_machine.specs.declared.turns.Going.{Going}
use Rattle.mx_machine.specs.declared.turns.Going.TheVariants as G
use Rattle.mx_machine.specs.declared.window.Window.{Window}
use Rattle.mx_machine.specs.AtGate.{gate_here}
use Rattle.mx_machine.specs.Goings.{kind_of}
use Rattle.mx_machine.specs.Harts.{hart_among}
use Rattle.mx_machine.specs.Held.{Held, meaning}
use Rattle.mx_machine.specs.Made.{IsMade}
use Rattle.mx_machine.specs.Ties.{Fits, RunsAlive}

-- no hart waits, the fetch of an address is at hand for hart h, and no gate of its domain stands there
pub record IsOpen (m : Held) (h address : ℕ) : Type 0 where
  pub quiet : m.waiting ≡ false
  pub at_hand : IsAtHand m.parts.size (kept_at m.parts.harts h).cache address
  pub gate : gate_here m (hart_among m.harts h).domain address ≡ None

-- so it is at each address of a window
pub record IsWindow (m : Held) (h : ℕ) (w : Window) : Type 0 where
  pub bound : w.start + w.bytes ≤ 2 ^ 32
  pub each : (a : ℕ) → covers w.start w.bytes a ≡ true → IsOpen m h a

-- a turn of hart h that runs in a live domain, and how it goes on: where it does, in a window
pub record IsTurnOn (old : Held) (h : ℕ) (new : Held) (events : Events) (going : Going)
    (window : Window) : Type 0 where
  pub made : IsMade old new events (kind_of going) (flat_made (meaning old) h)
  pub fits : Fits new
  pub on : going ≡ G.On → RunsAlive new h × (events ≡ no_events)
  pub ran : kind_of going ≡ T.Ran → going ≡ G.On
  pub within : going ≡ G.On → IsWindow new h window
