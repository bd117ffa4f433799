use Rattle.std.proofs.Common.{◌≡◌, ◌<◌, [], ◌∷◌, ◌++◌, length, length-append, ap, ◌∙◌, arith}
use Rattle.mx_io.proofs.Puts.{puts_same}
use Rattle.mx_tail.proofs.TailLaws.{push_held, push_full}
use Rattle.mx_tail.proofs.tail.Tail.push.Goals as goal

pub returns-then-len-lt-PIECE-clause-adds : goal.returns-then-len-lt-PIECE-clause-adds
returns-then-len-lt-PIECE-clause-adds g c =
    rw (← c.self.view_is) (push_held c.self.inside.bytes.items c.args.byte c.push.new.self.items _ c.push.ensures.items
    (omega (arith, c.len.ensures.value, c.if-len-lt-PIECE.true)))

pub returns-clause-adds : goal.returns-clause-adds
returns-clause-adds g c =
    let b = c.self.inside.bytes.items in
    let few : length b < 4096 = c.self.invariant in
    let long : length c.push.new.self.items ≡ length (b ++ c.args.byte ∷ []) = ap length c.push.ensures.items in
    let one = length-append b (c.args.byte ∷ []) in
    rw (← c.self.view_is)
    (push_full b c.args.byte (omega (arith, few, long, one, c.len.ensures.value, c.if-len-lt-PIECE.false))
    (puts_same (c.as_slice.ensures.value ∙ c.push.ensures.items) c.put_all-result.ensures) c.clear.ensures)
