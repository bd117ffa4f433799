use Rattle.std.proofs.Common.{arith, length-drop}
use Rattle.mx_commands.proofs.Parts.{takes_part}
use Rattle.mx_commands.proofs.reading.read_part.Goals as goal

pub returns : goal.returns
returns g c =
    takes_part g.S.Store.gives c.args.name.now _ _ c.args.at c.args.bytes.now c.read.new.into c.read.result c.requires
    (omega (arith, c.read.auto.into, length-drop c.args.at c.args.bytes.now))
    c.read.ensures.gives c.read.ensures.bound
