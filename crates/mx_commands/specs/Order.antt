-- What a run and a comparison are asked.
-- The rules: docs/COMMANDS.md, "The command line".
use Rattle.std.specs.Prelude.{ℕ, false, List, Option, None}
use Rattle.mx_commands.specs.declared.order.Shown.{Shown}
use Rattle.mx_commands.specs.declared.order.Way.{Way}

-- what a run is asked: its way; a manifest or a snapshot by its name, for at most so many steps; a schedule by its name; and what is shown
-- of it beside what each run of its way shows
pub record Order : Type 0 where
  pub way : Way
  pub file : List ℕ
  pub steps : ℕ
  pub schedule : Option (List ℕ)
  pub shown : Shown

-- nothing beside it
abbrev pub nothing : Shown
nothing = record { from = None; effects = false; dump = None; tables = false; counts = false }

-- an order without options
abbrev pub plain_order : Way → List ℕ → ℕ → Order
plain_order way file steps = record { way = way; file = file; steps = steps; schedule = None; shown = nothing }

-- two manifests by their names, a domain of both, and the most steps
pub record Pair : Type 0 where
  pub first : List ℕ
  pub second : List ℕ
  pub domain : ℕ
  pub steps : ℕ
