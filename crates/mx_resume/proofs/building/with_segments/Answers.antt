use Rattle.std.proofs.Common.{sym, arith}
use Rattle.mx_resume.proofs.Going.{last-buffer, may-join}
use Rattle.mx_resume.proofs.building.with_segments.Goals as goal

pub join-requires-in_default : goal.join-requires-in_default
join-requires-in_default c = (
  omega arith,
  (may-join c.args.held c.requires.held, (sym c.requires.kind, search (last-buffer))),
)

pub join-requires : goal.join-requires
join-requires c = (omega arith, (may-join c.args.held c.requires.held, (sym c.requires.kind, search)))

pub join-requires-in-32 : goal.join-requires-in-32
join-requires-in-32 c = (omega arith, (may-join c.args.held c.requires.held, (sym c.requires.kind, search)))
