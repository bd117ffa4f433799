-- What a turn adds: console bytes, and at most one note.
-- The rules: docs/MACHINE.md, "One turn".
use Rattle.std.specs.Prelude.{ℕ, List, [], Option, None}
use Rattle.mx_model.specs.declared.values.Note.{Note}

pub record Events : Type 0 where
  pub bytes : List ℕ
  pub note : Option Note

-- nothing yet
abbrev pub no_events : Events
no_events = record { bytes = []; note = None }
