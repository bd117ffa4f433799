use Rattle.mx_laws.proofs.isolation.turns_keep_frames.Goals as goal
use Rattle.mx_laws.proofs.FrameLaws.{frames-turned, frames-others}

pub returns-clause-own : goal.returns-clause-own
returns-clause-own c = frames-turned

pub returns-clause-others : goal.returns-clause-others
returns-clause-others c = frames-others
