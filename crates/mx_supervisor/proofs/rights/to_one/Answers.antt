use Rattle.std.proofs.Common.{arith}
use Rattle.mx_supervisor.proofs.Giving.{one-gives}
use Rattle.mx_supervisor.proofs.rights.to_one.Goals as goal

pub returns : goal.returns
returns c = λ modules few. one-gives _ c.args.first c.args.count c.args.domain modules c.args.perm c.requires.some
    (omega (arith, c.requires.few)) few c.put_right.ensures
