use Rattle.std.proofs.Common.{◌-◌, [], length, drop, length-drop, arith}
use Rattle.std.proofs.lemmas.List.{take_all, drop_all}
use Rattle.mx_turns.proofs.pace.behind.Goals as goal

pub returns-then-made-bytes : goal.returns-then-made-bytes
returns-then-made-bytes c =
    let bytes = c.args.bytes.now in
    take_all (length bytes - c.args.made) (drop c.args.made bytes) (omega (arith, length-drop c.args.made bytes))

pub returns-else-made-bytes : goal.returns-else-made-bytes
returns-else-made-bytes c =
    let bytes = c.args.bytes.now in
    rw (drop_all c.args.made bytes c.if-made-bytes.false, drop_all (length bytes) bytes (omega arith))
    (take_all (length bytes - length bytes) [] (omega arith))
