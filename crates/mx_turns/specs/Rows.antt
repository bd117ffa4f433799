-- What the loop of a run keeps: what holds after so many turns, or what holds where a sink failed.
use Rattle.std.specs.Prelude.{◌≡◌, ℕ, true, ◌+◌, ◌<◌, ◌≤◌, ◌⊎◌, None, Result, Ok, Err}
use Rattle.mx_model.specs.Run.{Schedule, all_halted}
use Rattle.mx_model.specs.State.{Core}
use Rattle.mx_turns.specs.declared.fault.SinkFault.{SinkFault}
use Rattle.mx_turns.specs.declared.rows.Row.{Row}
use Rattle.mx_turns.specs.Running.{named}

-- a row of at most so many turns after those that were made
abbrev pub StandsOrStops : (ℕ → Type 0) → (ℕ → SinkFault → Type 0) → ℕ → ℕ → Result Row SinkFault →
    Type 0
StandsOrStops stands stops made most (Ok row) = stands (made + row.turns)
StandsOrStops stands stops made most (Err which) = (n : ℕ) × (n < made + most) × stops n which

-- no turn is made any more
abbrev pub IsOver : Schedule → Core → Type 0
IsOver schedule c = (all_halted c ≡ true) ⊎ (named schedule c ≡ None)

-- at most so many turns after those that were made, fewer only where no turn is made any more
abbrev pub EndsOrStops : {A : Type 0} → (ℕ → Type 0) → (ℕ → SinkFault → Type 0) → Schedule → ℕ → ℕ →
    Core → Result A SinkFault → Type 0
EndsOrStops stands stops schedule made most c (Ok a) =
    (n : ℕ) × (n ≤ most) × ((n ≡ most) ⊎ IsOver schedule c) × stands (made + n)
EndsOrStops stands stops schedule made most c (Err which) =
    (n : ℕ) × (n < made + most) × stops n which
