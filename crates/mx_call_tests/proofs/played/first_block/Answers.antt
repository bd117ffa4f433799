use Rattle.mx_call_tests.proofs.played.first_block.Goals as goal

pub block-requires : goal.block-requires
block-requires g c = (assumption c, c.requires.rest.domain)
