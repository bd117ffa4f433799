use Rattle.mx_snapshot.proofs.SavedStates.{saved-fits}
use Rattle.mx_snapshot.proofs.resuming.saved_states_are_valid.Goals as goal

pub returns : goal.returns
returns c = saved-fits
