use Rattle.std.proofs.Common.{◌≡◌, [], replicate, map, vec_items, All}
use Rattle.mx_segments.specs.Lists.{IsRoomy}
use Rattle.mx_segments.proofs.chains.empty_chains.Given as goal

abbrev pub invariant-loop : goal.invariant-loop
invariant-loop l = (map vec_items l.lists.items ≡ replicate l.counter []) × All (IsRoomy l.room) l.lists.items
