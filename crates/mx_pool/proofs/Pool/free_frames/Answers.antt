use Rattle.mx_pool.proofs.StoredFrames.{free_in-frames_of}
use Rattle.mx_pool.proofs.Pool.free_frames.Goals as goal

pub returns : goal.returns
returns g c = rw (← c.self.view_is, free_in-frames_of) c.self.invariant.counted
