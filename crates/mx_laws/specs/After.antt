-- What is read of a hart, and of a turn of it: the state after, and what the turn was.
-- The rules: docs/MACHINE.md, "One turn".
use Rattle.std.specs.Prelude.{ℕ, List}
use Rattle.mx_model.specs.declared.values.Frame.{Frame}
use Rattle.mx_model.specs.declared.values.TurnKind.{TurnKind}
use Rattle.mx_model.specs.Agreement.{Standing, standing}
use Rattle.mx_model.specs.Reads.{Reads}
use Rattle.mx_model.specs.State.{Core, Hart, hart_at}
use Rattle.mx_model.specs.Turn.{turned}

-- the standing, the domain and the frames of hart h
abbrev pub standing_at : Core → ℕ → Standing
standing_at c h = standing (hart_at c h).status

abbrev pub domain_at : Core → ℕ → ℕ
domain_at c h = (hart_at c h).domain

abbrev pub frames_at : Core → ℕ → List Frame
frames_at c h = (hart_at c h).frames

-- the state and the hart after a turn of hart h, and what the turn was
abbrev pub core_after : Reads → Core → ℕ → Core
core_after r c h = (turned r c h).core

abbrev pub hart_after : Reads → Core → ℕ → Hart
hart_after r c h = hart_at (core_after r c h) h

abbrev pub kind_of : Reads → Core → ℕ → TurnKind
kind_of r c h = (turned r c h).kind
