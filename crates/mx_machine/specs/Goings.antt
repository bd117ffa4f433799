-- How a hart goes on after a turn.
use Rattle.mx_model.specs.declared.values.TurnKind.{TurnKind}
use Rattle.mx_model.specs.declared.values.TurnKind.TheVariants as T
use Rattle.mx_machine.specs.declared.turns.Going.{Going}
use Rattle.mx_machine.specs.declared.turns.Going.TheVariants as G

-- what the turn was
abbrev pub kind_of : Going → TurnKind
kind_of G.On = T.Ran
kind_of (G.Ended kind) = kind
