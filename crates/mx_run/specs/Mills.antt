-- What `mill` gives: for a reader of `mill` alone.
-- The rules: docs/PROMISES.md, "One clause for each command".
use Rattle.std.specs.Prelude.{◌≡◌, ℕ, List, [], ◌∷◌, codes, Some}
use Rattle.mx_io.specs.Store.{FileMap, StoreState}
use Rattle.mx_mill.specs.Mill.{mill_text}
use Rattle.mx_turns.specs.Ends.{Sinks}
use Rattle.mx_commands.specs.declared.status.Status.{Status}
use Rattle.mx_commands.specs.declared.status.Status.TheVariants.{Ran}
use Rattle.mx_run.specs.Words.{mill_number}
use Rattle.mx_run.specs.Promise.{Smoothly}
use Rattle.mx_run.specs.Plainly.{HoldsTexts}

-- the lines of the mill of a number are the report, and nothing else is written
abbrev pub Mills : List (List ℕ) → FileMap → Sinks → Sinks → Status → Type 0
Mills words files before now result =
    (operands : List (List ℕ)) (k : ℕ) → words ≡ codes "mill" ∷ operands → mill_number operands ≡ Some k →
    (result ≡ Ran) × HoldsTexts [] (mill_text k) [] before now

abbrev pub MillsPlainly : List (List ℕ) → StoreState → StoreState → Sinks → Sinks → Status → Type 0
MillsPlainly words = Smoothly (Mills words)
