use Rattle.mx_call_tests.proofs.played.ask_inside.Goals as goal

pub play-requires : goal.play-requires
play-requires g c = (assumption c, c.requires.rest)
