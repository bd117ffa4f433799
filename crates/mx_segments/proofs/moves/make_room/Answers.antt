use Rattle.std.proofs.Common.{arith}
use Rattle.mx_segments.proofs.MoveLaws.{list-le}
use Rattle.mx_segments.proofs.moves.make_room.Goals as goal

pub grow-requires-clause-memory : goal.grow-requires-clause-memory
grow-requires-clause-memory c =
    omega (
      arith,
      c.requires.memory.enough,
      c.requires.store.counted,
      list-le c.args.chains.now.lists
          c.args.row,
      c.if-len_at-needed.true,
      c.len_at.ensures.len,
    )
