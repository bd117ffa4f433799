use Rattle.mx_machine_tests.proofs.SmallLaws.{gates-more}
use Rattle.mx_machine_tests.proofs.small.gates_of.Goals as goal

pub loop-i-preserved : goal.loop-i-preserved
loop-i-preserved c =
    gates-more c.add.result c.args.modules c.loop-i.all c.add.new.self _ c.loop-i.invariant (c.is_gate.ensures c.if-not-is_gate.false)
    c.add.ensures.ok c.add.ensures.err
