use Rattle.std.proofs.Common.{length, ap, arith, length-drop}
use Rattle.std.proofs.lemmas.Fmt.{length-decimal-le}
use Rattle.mx_trace.proofs.line.Line.put_number.Goals as goal

pub write_digits-self-inside-requires : goal.write_digits-self-inside-requires
write_digits-self-inside-requires g c =
    let few = length-decimal-le 10 c.args.number (omega arith) (omega arith) (omega arith) in
    let there = ap length c.self.view_is in
    (omega (arith, few, there, length-drop c.self.inside.start c.self.inside.bytes), omega arith)

pub returns-clause-few : goal.returns-clause-few
returns-clause-few g c =
    let few = length-decimal-le 10 c.args.number (omega arith) (omega arith) (omega arith) in
    let there = ap length c.self.view_is in
    let d = c.write_digits-self-inside in
    omega (arith, few, there, d.ensures.start, length-drop c.self.inside.start c.self.inside.bytes, length-drop d.result d.new.buf)
