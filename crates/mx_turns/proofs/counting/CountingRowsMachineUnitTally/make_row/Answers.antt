use Rattle.mx_turns.proofs.CountLaws.{counted_row}
use Rattle.mx_turns.proofs.RunTexts.{later_row}
use Rattle.mx_turns.proofs.counting.CountingRowsMachineUnitTally.make_row.Goals as goal

pub returns-clause-later : goal.returns-clause-later
returns-clause-later g c = later_row c.args.machine.now c.run_on-stretch.new.self c.args.hart c.args.most c.run_on-stretch.new.out
    c.run_on-stretch.result c.run_on-stretch.ensures.stretch

pub returns-clause-stands : goal.returns-clause-stands
returns-clause-stands g c =
    λ p made s before going row has.
    counted_row p c.args.machine.now going c.args.hart c.args.most row made s c.args.report.now c.counted.result c.run_on-stretch.new.self
    c.run_on-stretch.new.out c.run_on-stretch.result c.run_on-stretch.ensures.stretch
    c.counted.ensures has
