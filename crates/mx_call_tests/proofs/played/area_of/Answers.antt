use Rattle.mx_call_tests.proofs.played.area_of.Goals as goal

pub heap_area-requires : goal.heap_area-requires
heap_area-requires g c = (assumption c, c.requires.rest.domain)
