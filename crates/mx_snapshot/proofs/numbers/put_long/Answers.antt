use Rattle.std.proofs.Common.{◌∙◌}
use Rattle.mx_tail.proofs.PassLaws.{passes_same}
use Rattle.mx_snapshot.proofs.ByteLaws.{eight_bytes}
use Rattle.mx_snapshot.proofs.numbers.put_long.Goals as goal

pub returns : goal.returns
returns g c = passes_same (c.to_le_bytes.ensures ∙ eight_bytes c.args.turns) c.put_bytes.ensures
