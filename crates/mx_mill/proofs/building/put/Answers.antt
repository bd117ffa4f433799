use Rattle.std.proofs.Common.{refl}
use Rattle.mx_mill.proofs.TableLaws.{members_with}
use Rattle.mx_mill.proofs.building.put.Goals as goal

pub returns : goal.returns
returns c = rw (c.in_ok-insert.ensures.entries, members_with, c.in_ok-key.ensures.ok) refl
