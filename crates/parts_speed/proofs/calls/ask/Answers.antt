use Rattle.parts_speed.proofs.calls.ask.Goals as goal

pub play-requires : goal.play-requires
play-requires g c = (assumption c, rw c.own_call.ensures c.requires)
