use Rattle.mx_runs.proofs.BorderLaws.{border-tells}
use Rattle.mx_runs.proofs.borders.borders_tell_turns.Goals as goal

pub returns : goal.returns
returns c = border-tells
