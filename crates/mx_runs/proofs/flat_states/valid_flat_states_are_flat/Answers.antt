use Rattle.mx_runs.proofs.flat_states.valid_flat_states_are_flat.Goals as goal
use Rattle.mx_runs.proofs.WordLaws.{flat-state_of}

pub returns : goal.returns
returns c = flat-state_of
