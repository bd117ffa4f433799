use Rattle.std.proofs.Common.{◌+◌, ◌<◌, ◌≤◌, length, arith}
use Rattle.mx_tail.proofs.TailLaws.{is_ok_on, put_held}
use Rattle.mx_tail.proofs.tail.Tail.put.Goals as goal

pub returns-then-bytes-len-clause-adds : goal.returns-then-bytes-len-clause-adds
returns-then-bytes-len-clause-adds g c =
    let n = length c.self.inside.bytes.items in
    let few : n + length c.args.bytes.now < 4096 = omega (arith, c.len.ensures.value, c.if-bytes-len.true) in
    let extended = c.try_extend_from_slice.ensures in
    rw (← c.self.view_is) (put_held _ _ _ _ (is_ok_on _ (extended.variant.1 (omega (arith, few))) extended.ok) few)
