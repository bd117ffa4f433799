use Rattle.std.proofs.Common.{refl}
use Rattle.mx_turns.proofs.Sinking.{breaks_of, moves_of, moves_passes}
use Rattle.mx_turns.proofs.turns.show.Goals as goal

pub returns-in-Ok-put_told : goal.returns-in-Ok-put_told
returns-in-Ok-put_told g c = (
  moves_of c.in-Ok.ensures.adds,
  rw c.note.ensures at
      (moves_passes c.in-Ok-put_told.ensures.passes c.in-Ok-put_told.ensures.few),
)

pub returns-in-Err-put_told : goal.returns-in-Err-put_told
returns-in-Err-put_told g c = (moves_of c.in-Ok.ensures.adds, rw c.note.ensures at (breaks_of c.in-Err-put_told.ensures.passes.stopped))

pub returns-in-Err : goal.returns-in-Err
returns-in-Err g c = (breaks_of c.in-Err.ensures.adds.left, refl, refl)
