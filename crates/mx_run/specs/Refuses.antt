-- What every command gives where it doesn't end with status 0: one line.
-- The rules: docs/PROMISES.md, "One clause for each command".
use Rattle.std.specs.Prelude.{◌≢◌, ℕ, List, [], unwrap_or}
use Rattle.mx_io.specs.Store.{FileMap, StoreState}
use Rattle.mx_turns.specs.Ends.{Sinks}
use Rattle.mx_commands.specs.declared.status.Status.{Status}
use Rattle.mx_commands.specs.declared.status.Status.TheVariants.{Ran}
use Rattle.mx_commands.specs.Refusal.{line_of}
use Rattle.mx_run.specs.Promise.{Smoothly}
use Rattle.mx_run.specs.Plainly.{HoldsTexts}

-- the status has one line, which is the report, for the name of the file that it is about; nothing else is written
abbrev pub RefusesSo : FileMap → Sinks → Sinks → Status → Type 0
RefusesSo files before now result =
    result ≢ Ran → (name : List ℕ) × HoldsTexts [] (unwrap_or (line_of name result) []) [] before now

abbrev pub RefusesByLine : List (List ℕ) → StoreState → StoreState → Sinks → Sinks → Status → Type 0
RefusesByLine words = Smoothly RefusesSo
