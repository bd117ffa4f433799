use Rattle.mx_machine.proofs.bare.Bare.turn_outside.Goals as goal

pub window_after-requires : goal.window_after-requires
window_after-requires g c = (assumption c, (c.turn_on-going.ensures.fits, λ on. (c.turn_on-going.ensures.on on).0))
